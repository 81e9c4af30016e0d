mod Wording
mod Numbering
mod Ranking
