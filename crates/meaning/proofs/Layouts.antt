-- The definitions for a sheet of today are those for a sheet in any layout, at today's.
--     rules_today, bad_today     what its records say, and the first bad one
--     checking_today             what checking it answers
use mathlib.Core.Path.{◌≡◌, refl}
use Prim.Native.Nat.{ℕ}
use mathlib.Core.List.{List}
use Rattle.meaning.specs.Limits.{layout}
use Rattle.meaning.specs.Sheet.{names, mask, rule_at, rules, fine, bad_record, names_in, mask_in, rule_in, rules_in, fine_in, bad_in}
use Rattle.meaning.specs.Answers.{bad_shape, sheet_refusals, checking, checking_in}

module _ (n : ℕ) (s : List ℕ) where
  pub rules_today : rules n s ≡ rules_in layout n s
  unfolding rules rule_at mask names rules_in rule_in mask_in names_in
  rules_today = refl

  pub bad_today : bad_record n s ≡ bad_in layout n s
  unfolding bad_record fine mask names bad_in fine_in mask_in names_in
  bad_today = refl

  pub checking_today : (r : ℕ) → checking n s r ≡ checking_in layout n s r
  unfolding checking sheet_refusals bad_shape checking_in
  checking_today r = rw (rules_today, bad_today)
