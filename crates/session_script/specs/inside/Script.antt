-- What private functions and proofs alone say of it, beside `specs/Script.antt`.
use Rattle.std.specs.Prelude.{Bool, is_some}
use Rattle.session_head.specs.Head.{Head, session_of}

-- START was read
abbrev pub is_started : Head → Bool
is_started head = is_some (session_of head)
