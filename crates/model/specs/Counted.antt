-- Counts of the model, for any values: how long its lists get, and how many unknowns and equations a block adds.
--     rules_from rule i m     the rules of the m positions from i on
--     lost                   an erased symbol
--     Counted                what a block of 2 ^ n symbols w adds to the state s
--     behind es o            o, with the equations es in front of its own
use Rattle.std.specs.Prelude.{◌≡◌, ℕ, ◌+◌, ◌^◌, Bool, true, false, List, ◌++◌, map, length}
use Rattle.std.proofs.Math.Option.{Option, none, some}
use Rattle.bits.specs.Vectors.{tab, ones}
use Rattle.meaning.specs.Sheet.{Rule}
use Rattle.meaning.specs.Open.{opens, open_free, closed_frozen}
use Rattle.model.specs.Model.{Walk, Out}

abbrev pub rules_from : (ℕ → Rule) → ℕ → ℕ → List Rule
rules_from rule i m = tab m (λ (j : ℕ). rule (i + j))

abbrev pub lost : {A : Type 0} → Option A → Bool
lost none = true
lost (some a) = false

pub record Counted {A : Type 0} (rule : ℕ → Rule) (n : ℕ) (w : List (Option A)) (s : Walk A) (o : Out A) : Type 0 where
  pub block : length o.block ≡ 2 ^ n
  pub us : length o.after.us ≡ length s.us + 2 ^ n
  -- an unknown for each open free position, an equation for each closed frozen one
  pub next : o.after.next ≡ s.next + ones (open_free (rules_from rule (length s.us) (2 ^ n)) (opens n (map lost w)))
  pub eqs : length o.after.eqs ≡ length s.eqs + ones (closed_frozen (rules_from rule (length s.us) (2 ^ n)) (opens n (map lost w)))

abbrev pub behind : {A : Type 0} → List A → Out A → Out A
behind es o = record { block = o.block; after = record { us = o.after.us; next = o.after.next; eqs = es ++ o.after.eqs } }
