use Rattle.std.proofs.Common.{◌≡◌, ◌++◌, [], None}
use Rattle.std.specs.Prelude.{IfSome}
use Rattle.std.specs.Slice.Iter.{chunks_rest}
use Rattle.watched_run.proofs.publishing.publish_all.Given as goal

-- the pieces so far are published, and a note tells so
abbrev pub invariant-loop-piece : goal.invariant-loop-piece
invariant-loop-piece g l = record {
  session : l.feed.session ≡ l.fn.feed.session;
  tape : l.feed.tape ≡ l.fn.feed.tape;
  readers : l.feed.readers ≡ l.fn.feed.readers;
  pending : l.feed.pending ≡ [];
  published : l.feed.published ++ chunks_rest l.piece-iterator ≡ l.fn.feed.published ++ l.entries;
  told : IfSome l.told (λ note. note ≡ record { tape = l.feed.tape; entries = l.feed.published });
  none : l.told ≡ None → chunks_rest l.piece-iterator ≡ l.entries;
}
