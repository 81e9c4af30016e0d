-- The words printed back from what `clap` matched, options last.
use Rattle.std.specs.Prelude.{List, [], ◌∷◌, Option, Some, None, option_map, if◌then◌else◌, bytes_eq, codes}
use Rattle.std.specs.Borrow.{Bor}
use Rattle.clap.specs.Words.{Row, Text, first_of}
use Rattle.program_calls.specs.Forms.{◌>>=◌}
use Rattle.program_calls.specs.declared.matched.Matched.{Matched}
use Rattle.program_calls.specs.declared.matched.Matched.TheVariants.{Run, Serial, Check, Load, Clients, Payments, Watch}

-- an option, where it was given
abbrev pub with_option : Option Text → List Text
with_option None = []
with_option (Some count) = codes "--workers" ∷ count ∷ []

abbrev pub option_words : Option (Bor Text) → List Text
option_words workers = with_option (option_map (λ count. count.now) workers)

abbrev pub matched_words : Matched → List Text
matched_words (Run workers) = codes "run" ∷ option_words workers
matched_words Serial = codes "serial" ∷ []
matched_words Check = codes "check" ∷ []
matched_words (Load seed banks pairs commands workers) = codes "load" ∷ seed.now ∷ banks.now ∷ pairs.now ∷ commands.now ∷ option_words workers
matched_words Clients = codes "clients" ∷ []
matched_words (Payments form) = codes "payments" ∷ form.now ∷ []
matched_words Watch = codes "watch" ∷ []

-- the same of a subcommand with what its rows have
abbrev pub printed_load : List Row → Option (List Text)
printed_load rows = do
  seed ← first_of (codes "SEED") rows
  banks ← first_of (codes "BANKS") rows
  pairs ← first_of (codes "PAIRS") rows
  commands ← first_of (codes "COMMANDS") rows
  Some (codes "load" ∷ seed ∷ banks ∷ pairs ∷ commands ∷ with_option (first_of (codes "workers") rows))

abbrev pub printed_payments : List Row → Option (List Text)
printed_payments rows = do
  form ← first_of (codes "FORM") rows
  Some (codes "payments" ∷ form ∷ [])

abbrev pub printed_of : Text → List Row → Option (List Text)
printed_of name rows =
    if bytes_eq name (codes "run") then Some (codes "run" ∷ with_option (first_of (codes "workers") rows))
    else if bytes_eq name (codes "serial") then Some (codes "serial" ∷ [])
    else if bytes_eq name (codes "check") then Some (codes "check" ∷ [])
    else if bytes_eq name (codes "load") then printed_load rows
    else if bytes_eq name (codes "clients") then Some (codes "clients" ∷ [])
    else if bytes_eq name (codes "payments") then printed_payments rows
    else if bytes_eq name (codes "watch") then Some (codes "watch" ∷ [])
    else None

abbrev pub printed : Option (Text × List Row) → Option (List Text)
printed None = None
printed (Some sub) = printed_of sub.0 sub.1
