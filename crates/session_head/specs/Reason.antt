-- The numbers of the faults of a header.
use Rattle.std.specs.Prelude.{ℕ}
use Rattle.session_head.specs.declared.reason.HeadReason.{HeadReason}
use Rattle.session_head.specs.declared.reason.HeadReason.TheVariants.{Version, Word, Count, Name, Pair, Decimals, Lot, Weight, Banks, Limit, Start, Many, Long}

abbrev pub reason_code : HeadReason → ℕ
reason_code Version = 1
reason_code Word = 2
reason_code Count = 3
reason_code Name = 4
reason_code Pair = 5
reason_code Decimals = 6
reason_code Lot = 7
reason_code Weight = 8
reason_code Banks = 9
reason_code Limit = 10
reason_code Start = 11
reason_code Many = 12
reason_code Long = 13
