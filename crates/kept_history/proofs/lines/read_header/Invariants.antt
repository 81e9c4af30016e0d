use Rattle.std.proofs.Common.{◌≡◌, length}
use Rattle.std.specs.Prelude.{is_some}
use Rattle.session_head.specs.Head.{session_of}
use Rattle.kept_history.specs.Blocks.{header_in}
use Rattle.kept_history.proofs.LineLemmas.{header_from}
use Rattle.kept_history.proofs.lines.read_header.Given as goal

-- the lines of the rest decide what the header of the body is
abbrev pub invariant-loop-line : goal.invariant-loop-line
invariant-loop-line l = record {
  reads : header_in l.body ≡ header_from l.reader l.rest;
  is_started : l.started ≡ is_some (session_of l.reader);
}

abbrev pub decreases-loop-line : goal.decreases-loop-line
decreases-loop-line l = length l.rest
