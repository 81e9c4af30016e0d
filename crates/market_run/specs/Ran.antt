-- What contracts see of a run: the market, and who is told of the entries.

pub record Ran (M O : Type 0) : Type 0 where
  pub market : M
  pub observer : O
