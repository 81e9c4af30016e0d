-- What writing does to a sink that gets its bytes in pieces, and to the bytes that are held for it.
use Rattle.std.specs.Prelude.{◌≡◌, ℕ, ◌≤◌, List, ◌++◌, Option, Result, OnOk, OnErr, IfErr}
use Rattle.std.specs.Io.KnownBytes.{append_known}
use Rattle.fx_edges.specs.Faults.{Rose}
use Rattle.fx_edges.specs.Writing.{AppendedPart}
use Rattle.fx_edges.specs.declared.sink.SinkFault.{SinkFault}
use Rattle.fx_edges.specs.declared.sink.SinkFault.TheVariants.{Failed}

-- The sink got some bytes. These, and then what is held now, are what was held before, and then the text.
pub record Kept {K : Type 0} (written : K → Option (List ℕ)) (faults : K → ℕ)
    (held : List ℕ) (before : K) (rest : List ℕ) (now : K) (text : List ℕ) : Type 0 where
  pub handed : List ℕ
  pub joined : handed ++ rest ≡ held ++ text
  pub holds : written now ≡ append_known (written before) handed
  pub count : faults before ≤ faults now

-- A call wrote the text: at `Ok` it was handed on or is held, and at a fault the sink got a prefix of what was held and the
-- text. The count rose where the fault was `Failed`.
pub record Gathered {K T : Type 0} (written : K → Option (List ℕ)) (faults : K → ℕ)
    (held : List ℕ) (before : K) (rest : List ℕ) (now : K) (text : List ℕ) (result : Result T SinkFault) : Type 0 where
  pub ok : OnOk result (Kept written faults held before rest now text)
  pub fault : OnErr result (AppendedPart written faults before now (held ++ text))
  pub cause : IfErr result (λ fault. fault ≡ Failed → Rose (faults before) (faults now))
