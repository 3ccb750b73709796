-- Answers: what must be left of the systems of `held`. Scan, Verdicts: `verdict`. Judging: the verdicts on the systems of `judged`.
pub mod Answers
pub mod Scan
pub mod Verdicts
pub mod Judging
