-- The inactivation decoder as mathematics: halves, left then right, over any values that have a sum. Nothing is proved here.
--     Values           what it computes with: a sum, 0, 1 and unknowns
--     Walk, Out        what is known on the way; what a block gives
--     left_syms, right_syms      the symbols of the left half; those of the right half, once the left one is known
--     value_at, eqs_at, next_at   one position: its value, its equation, the unknowns handed out
--     decode           the recursion
--     checks           the check: the shift register of `rest`, over values
--     run, system      the recursion on a word; all the equations that it leaves
use Rattle.std.specs.Prelude.{ℕ, zero, suc, ◌^◌, Bool, true, false, List, [], ◌∷◌, ◌++◌, map, length, take, drop, replicate}
use Rattle.std.proofs.Math.Option.{Option, none, some}
use Rattle.bits.specs.Vectors.{tab}
use Rattle.meaning.specs.Limits.{leads}
use Rattle.meaning.specs.Sheet.{Rule, free, frozen}
use Rattle.meaning.specs.Check.{poly}

-- a sum, 0, 1, and the unknowns that stand in for open free bits. No law is asked for
pub record Values (A : Type 0) : Type 0 where
  pub plus : A → A → A
  pub nought : A
  pub unit : A
  pub unknown : ℕ → A

-- the values at the positions so far, in order; the unknowns handed out; the equations, each to be 0
pub record Walk (A : Type 0) : Type 0 where
  pub us : List A
  pub next : ℕ
  pub eqs : List A

-- a block's symbols, all known now, and what is known behind it
pub record Out (A : Type 0) : Type 0 where
  pub block : List A
  pub after : Walk A

abbrev pub start : {A : Type 0} → Walk A
start = record { us = []; next = 0; eqs = [] }

-- the values at the free positions
abbrev pub free_of : {A : Type 0} → List Rule → List A → List A
free_of [] v = []
free_of (k ∷ ks) [] = []
free_of (free ∷ ks) (a ∷ v) = a ∷ free_of ks v
free_of (frozen c m ∷ ks) (a ∷ v) = free_of ks v

-- an erased symbol at a free position takes an unknown
abbrev pub next_at : {A : Type 0} → Rule → Option A → ℕ → ℕ
next_at k (some a) n = n
next_at free none n = suc n
next_at (frozen c m) none n = n

module _ {A : Type 0} (𝓥 : Values A) where
  -- ---- sums

  abbrev pub sums : List A → List A → List A
  sums [] w = []
  sums (a ∷ v) [] = []
  sums (a ∷ v) (b ∷ w) = 𝓥.plus a b ∷ sums v w

  -- a bit times a value
  abbrev pub gate : Bool → A → A
  gate true a = a
  gate false a = 𝓥.nought

  -- bits, each times one value
  abbrev pub scaled : List Bool → A → List A
  scaled g a = map (λ (x : Bool). gate x a) g

  -- the sum of the named values
  abbrev pub named : List Bool → List A → A
  named [] us = 𝓥.nought
  named (m ∷ ms) [] = 𝓥.nought
  named (m ∷ ms) (a ∷ us) = 𝓥.plus (gate m a) (named ms us)

  -- what a frozen rule asks for: the constant and the named values
  abbrev pub rule_value : Bool → List Bool → List A → A
  rule_value c m us = 𝓥.plus (gate c 𝓥.unit) (named m us)

  -- ---- the symbols of the halves

  -- known where both are
  abbrev pub left_sym : Option A → Option A → Option A
  left_sym none t = none
  left_sym (some a) none = none
  left_sym (some a) (some b) = some (𝓥.plus a b)

  -- once the left half's symbol is known to be v
  abbrev pub right_sym : Option A → Option A → A → Option A
  right_sym s (some b) v = some b
  right_sym none none v = none
  right_sym (some a) none v = some (𝓥.plus a v)

  abbrev pub left_syms : List (Option A) → List (Option A) → List (Option A)
  left_syms [] b = []
  left_syms (s ∷ a) [] = []
  left_syms (s ∷ a) (t ∷ b) = left_sym s t ∷ left_syms a b

  abbrev pub right_syms : List (Option A) → List (Option A) → List A → List (Option A)
  right_syms [] b v = []
  right_syms (s ∷ a) [] v = []
  right_syms (s ∷ a) (t ∷ b) [] = []
  right_syms (s ∷ a) (t ∷ b) (x ∷ v) = right_sym s t x ∷ right_syms a b v

  -- ---- one position, its rule and the symbol that reaches it

  -- its value, from those before it and the unknowns handed out
  abbrev pub value_at : Rule → Option A → List A → ℕ → A
  value_at k (some a) us n = a
  value_at free none us n = 𝓥.unknown n
  value_at (frozen c m) none us n = rule_value c m us

  -- a known symbol at a frozen position has to keep the rule
  abbrev pub eqs_at : Rule → Option A → List A → List A
  eqs_at k none us = []
  eqs_at free (some a) us = []
  eqs_at (frozen c m) (some a) us = 𝓥.plus a (rule_value c m us) ∷ []

  abbrev pub step_at : Rule → Option A → Walk A → Walk A
  step_at k x s = record {
    us = s.us ++ (value_at k x s.us s.next ∷ []);
    next = next_at k x s.next;
    eqs = s.eqs ++ eqs_at k x s.us;
  }

  abbrev pub out_at : Rule → List (Option A) → Walk A → Out A
  out_at k [] s = record { block = []; after = s }
  out_at k (x ∷ w) s = record { block = value_at k x s.us s.next ∷ []; after = step_at k x s }

  -- ---- the recursion. The block's first position is the number of those before it

  abbrev pub join_out : Out A → Out A → Out A
  join_out l r = record { block = sums l.block r.block ++ r.block; after = r.after }

  unfoldable pub decode : (ℕ → Rule) → ℕ → List (Option A) → Walk A → Out A
  decode rule zero w s = out_at (rule (length s.us)) w s
  decode rule (suc n) w s =
      let a = take (2 ^ n) w in
      let b = drop (2 ^ n) w in
      let l = decode rule n (left_syms a b) s in
      join_out l (decode rule n (right_syms a b l.block) l.after)

  -- ---- the check

  -- `shift` and `rest`, over values
  abbrev pub shift_of : List Bool → List A → A → List A
  shift_of g [] b = []
  shift_of g (o ∷ s) b = sums (s ++ (b ∷ [])) (scaled g o)

  abbrev pub rest_of : List Bool → List A → List A → List A
  rest_of g s [] = s
  rest_of g s (b ∷ v) = rest_of g (shift_of g s b) v

  -- the remainder of the check's leading bits and the free values
  abbrev pub checks : ℕ → List Rule → List A → List A
  checks r ks us = rest_of (poly r) (replicate r 𝓥.nought) (scaled (leads r) 𝓥.unit ++ free_of ks us)

  -- ---- a word of 0, 1 and 2 (erased)

  abbrev pub symbol : ℕ → Option A
  symbol zero = some 𝓥.nought
  symbol (suc zero) = some 𝓥.unit
  symbol (suc (suc s)) = none

  unfoldable pub run : (ℕ → Rule) → ℕ → List ℕ → Out A
  run rule n w = decode rule n (map symbol w) start

  -- the equations: those of the closed frozen positions, then those of the check
  unfoldable pub system : (ℕ → Rule) → ℕ → ℕ → List ℕ → List A
  system rule n r w = let o = run rule n w in o.after.eqs ++ checks r (tab (2 ^ n) rule) o.after.us
