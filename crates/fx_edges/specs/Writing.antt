-- What writing does to a sink, seen by the bytes that it holds and by its count of faults.
use Rattle.std.specs.Prelude.{◌≡◌, ℕ, ◌<◌, ◌≤◌, List, ◌++◌, length, Option, Result, OnOk, OnErr, IfErr}
use Rattle.std.specs.Io.KnownBytes.{append_known}
use Rattle.fx_edges.specs.Faults.{Rose}
use Rattle.fx_edges.specs.declared.sink.SinkFault.{SinkFault}
use Rattle.fx_edges.specs.declared.sink.SinkFault.TheVariants.{Failed}

-- the text begins with this part
pub record IsPrefixOf (part text : List ℕ) : Type 0 where
  pub rest : List ℕ
  pub joined : text ≡ part ++ rest

-- The sink holds what it held before, and then the text. Where it doesn't tell what it holds, this
-- says that it goes on not telling. The count never falls.
pub record Appended {K : Type 0} (written : K → Option (List ℕ)) (faults : K → ℕ)
    (before now : K) (text : List ℕ) : Type 0 where
  pub holds : written now ≡ append_known (written before) text
  pub count : faults before ≤ faults now

-- the sink got a prefix of the text, and the count didn't fall
pub record AppendedPart {K : Type 0} (written : K → Option (List ℕ)) (faults : K → ℕ)
    (before now : K) (text : List ℕ) : Type 0 where
  pub part : List ℕ
  pub prefix : IsPrefixOf part text
  pub holds : written now ≡ append_known (written before) part
  pub count : faults before ≤ faults now

-- and it didn't get all of it
pub record CutShort {K : Type 0} (written : K → Option (List ℕ)) (faults : K → ℕ)
    (before now : K) (text : List ℕ) : Type 0 where
  pub got : AppendedPart written faults before now text
  pub short : length got.part < length text

-- A call wrote the text: the sink got it whole at `Ok`, and a prefix of it at a fault. The count rose
-- where the fault was `Failed`.
pub record Wrote {K T : Type 0} (written : K → Option (List ℕ)) (faults : K → ℕ)
    (before now : K) (text : List ℕ) (result : Result T SinkFault) : Type 0 where
  pub ok : OnOk result (Appended written faults before now text)
  pub fault : OnErr result (AppendedPart written faults before now text)
  pub cause : IfErr result (λ fault. fault ≡ Failed → Rose (faults before) (faults now))
