-- The model over bits: its block is the transform of the bits that it finds, and they are read one by one off the symbols that reach the positions.
--     rule_bit, checks-bits      what a rule asks for, and the check, are those of the definitions
--     walk, reads                the walk along the positions, each with its rule and its symbol; the bits that it reads
--     found                      the recursion on halves is that walk
use mathlib.Core.Path.{◌≡◌, refl, sym, ap, ap₂, ◌∙◌, subst}
use Prim.Native.Nat.{ℕ, zero, suc, ◌+◌, ◌^◌}
use native.Mathlib.Omega.{arith}
use native.Mathlib.Nat.{suc_inj, zero-add}
use mathlib.Core.Bool.{Bool, true, false, ◌&&◌, not}
use mathlib.Core.List.{List, [], ◌∷◌, ◌++◌, map, append-nil, append_assoc}
use mathlib.Core.Option.{Option}
use lib.ListN.{length, take, drop, replicate, length-append, length-take, length-drop, take-append-drop}
use Rattle.bits.specs.Vectors.{◌⊕◌, ◌⊞◌, tab, odd}
use Rattle.bits.proofs.Tests.{length-tab, tab_ext, tab_append}
use Rattle.meaning.specs.Limits.{leads}
use Rattle.meaning.specs.Transform.{polar}
use Rattle.meaning.specs.Sheet.{Rule, free, frozen}
use Rattle.meaning.specs.Check.{free_bits, shift, rest, poly}
use Rattle.meaning.proofs.Polar.{polar_append, length-polar}
use Rattle.model.specs.Model.{Walk, Out, free_of, sums, gate, scaled, named, rule_value, left_syms, right_syms, value_at, step_at, join_out, decode, shift_of, rest_of, checks}
use Rattle.model.specs.AtBits.{bits}
use Rattle.model.specs.Counted.{rules_from}
use Rattle.model.proofs.Halves.{length_lefts, length_rights}
use Rattle.model.proofs.Leaf.{leaf, leaf_append, length_leaf}

-- ---- rules

rules_halves : (rule : ℕ → Rule) (i n : ℕ) → rules_from rule i (2 ^ suc n) ≡ rules_from rule i (2 ^ n) ++ rules_from rule (i + 2 ^ n) (2 ^ n)
rules_halves rule i n =
    let e : 2 ^ suc n ≡ 2 ^ n + 2 ^ n = omega arith in
    ap (rules_from rule i) e ∙ tab_append (2 ^ n) (2 ^ n) (λ (j : ℕ). rule (i + j))
    ∙ ap (λ (l : List Rule). rules_from rule i (2 ^ n) ++ l)
    (tab_ext (2 ^ n) (λ (j : ℕ). rule (i + (2 ^ n + j))) (λ (j : ℕ). rule (i + 2 ^ n + j)) (λ j. ap rule (omega arith)))

pub rules-start : (rule : ℕ → Rule) (m : ℕ) → rules_from rule 0 m ≡ tab m rule
rules-start rule m = tab_ext m (λ (j : ℕ). rule (0 + j)) rule (λ j. ap rule (zero-add j))

-- ---- the model's functions over bits are those of the definitions

module _ (t : ℕ → Bool) where
  sums-⊞ : (u v : List Bool) → sums (bits t) u v ≡ u ⊞ v
  sums-⊞ [] v = refl
  sums-⊞ (a ∷ u) [] = refl
  sums-⊞ (a ∷ u) (b ∷ v) = ap {B = List Bool} (λ (l : List Bool). (a ⊕ b) ∷ l) (sums-⊞ u v)

  gate-and : (m b : Bool) → gate (bits t) m b ≡ m && b
  gate-and true b = refl
  gate-and false b = refl

  named-odd : (m u : List Bool) → named (bits t) m u ≡ odd m u
  named-odd [] u = refl
  named-odd (m ∷ ms) [] = refl
  named-odd (m ∷ ms) (b ∷ u) = ap₂ ◌⊕◌ (gate-and m b) (named-odd ms u)

  pub rule_bit : (c : Bool) (m u : List Bool) → rule_value (bits t) c m u ≡ c ⊕ odd m u
  rule_bit true m u = ap not (named-odd m u)
  rule_bit false m u = named-odd m u

  scaled-and : (g : List Bool) (o : Bool) → scaled (bits t) g o ≡ map (λ (x : Bool). o && x) g
  scaled-and [] o = refl
  scaled-and (x ∷ g) o = ap₂ {C = List Bool} ◌∷◌ (one o x) (scaled-and g o)
    where
      one : (o x : Bool) → gate (bits t) x o ≡ o && x
      one true true = refl
      one true false = refl
      one false true = refl
      one false false = refl

  scaled-unit : (g : List Bool) → scaled (bits t) g true ≡ g
  scaled-unit [] = refl
  scaled-unit (true ∷ g) = ap {B = List Bool} (λ (l : List Bool). true ∷ l) (scaled-unit g)
  scaled-unit (false ∷ g) = ap {B = List Bool} (λ (l : List Bool). false ∷ l) (scaled-unit g)

  shift-bits : (g s : List Bool) (b : Bool) → shift_of (bits t) g s b ≡ shift g s b
  shift-bits g [] b = refl
  shift-bits g (o ∷ s) b = sums-⊞ (s ++ (b ∷ [])) (scaled (bits t) g o) ∙ ap (λ (l : List Bool). (s ++ (b ∷ [])) ⊞ l) (scaled-and g o)

  rest-bits : (g s v : List Bool) → rest_of (bits t) g s v ≡ rest g s v
  rest-bits g s [] = refl
  rest-bits g s (b ∷ v) = ap (λ (l : List Bool). rest_of (bits t) g l v) (shift-bits g s b) ∙ rest-bits g (shift g s b) v

  free-bits : (ks : List Rule) (v : List Bool) → free_of ks v ≡ free_bits ks v
  free-bits [] v = refl
  free-bits (k ∷ ks) [] = refl
  free-bits (free ∷ ks) (b ∷ v) = ap {B = List Bool} (λ (l : List Bool). b ∷ l) (free-bits ks v)
  free-bits (frozen c m ∷ ks) (b ∷ v) = free-bits ks v

  pub checks-bits : (r : ℕ) (ks : List Rule) (u : List Bool) → checks (bits t) r ks u ≡ rest (poly r) (replicate r false) (leads r ++ free_bits ks u)
  checks-bits r ks u =
      rest-bits (poly r) (replicate r false) (scaled (bits t) (leads r) true ++ free_of ks u)
      ∙ ap (rest (poly r) (replicate r false)) (ap₂ {C = List Bool} ◌++◌ (scaled-unit (leads r)) (free-bits ks u))

  -- ---- the walk along the positions, each with its rule and the symbol that reaches it

  abbrev pub walk : List Rule → List (Option Bool) → Walk Bool → Walk Bool
  walk [] xs s = s
  walk (k ∷ ks) [] s = s
  walk (k ∷ ks) (x ∷ xs) s = walk ks xs (step_at (bits t) k x s)

  -- the bits that it finds
  abbrev pub reads : List Rule → List (Option Bool) → Walk Bool → List Bool
  reads [] xs s = []
  reads (k ∷ ks) [] s = []
  reads (k ∷ ks) (x ∷ xs) s = value_at (bits t) k x s.us s.next ∷ reads ks xs (step_at (bits t) k x s)

  pub walk_us : (ks : List Rule) (xs : List (Option Bool)) (s : Walk Bool) → (walk ks xs s).us ≡ s.us ++ reads ks xs s
  walk_us [] xs s = sym (append-nil s.us)
  walk_us (k ∷ ks) [] s = sym (append-nil s.us)
  walk_us (k ∷ ks) (x ∷ xs) s =
      let s' = step_at (bits t) k x s in walk_us ks xs s' ∙ append_assoc s.us (value_at (bits t) k x s.us s.next ∷ []) (reads ks xs s')

  walk_append : (ks ls : List Rule) (xs ys : List (Option Bool)) (s : Walk Bool) → length ks ≡ length xs → walk (ks ++ ls) (xs ++ ys) s ≡ walk ls ys (walk ks xs s)
  walk_append [] ls [] ys s h = refl
  walk_append [] ls (x ∷ xs) ys s h = absurd (omega arith)
  walk_append (k ∷ ks) ls [] ys s h = absurd (omega arith)
  walk_append (k ∷ ks) ls (x ∷ xs) ys s h = walk_append ks ls xs ys (step_at (bits t) k x s) (suc_inj h)

  reads_append : (ks ls : List Rule) (xs ys : List (Option Bool)) (s : Walk Bool) → length ks ≡ length xs
      → reads (ks ++ ls) (xs ++ ys) s ≡ reads ks xs s ++ reads ls ys (walk ks xs s)
  reads_append [] ls [] ys s h = refl
  reads_append [] ls (x ∷ xs) ys s h = absurd (omega arith)
  reads_append (k ∷ ks) ls [] ys s h = absurd (omega arith)
  reads_append (k ∷ ks) ls (x ∷ xs) ys s h =
      ap {B = List Bool} (λ (l : List Bool). value_at (bits t) k x s.us s.next ∷ l) (reads_append ks ls xs ys (step_at (bits t) k x s) (suc_inj h))

  -- ---- the recursion is that walk

  module _ (rule : ℕ → Rule) where
    -- the bits v of a block: the block is their transform, and they are read off the symbols that reach it, from the state s on
    abbrev pub Found : ℕ → List (Option Bool) → Walk Bool → Out Bool → List Bool → Type 0
    Found n w s o v =
        (length v ≡ 2 ^ n)
        × (o.block ≡ polar n v)
        × (o.after ≡ walk (rules_from rule (length s.us) (2 ^ n)) (leaf t n w v) s)
        × (v ≡ reads (rules_from rule (length s.us) (2 ^ n)) (leaf t n w v) s)

    join : (n : ℕ) (a b : List (Option Bool)) → length a ≡ 2 ^ n → length b ≡ 2 ^ n → (s : Walk Bool) (l r : Out Bool) (p q : List Bool)
        → Found n (left_syms (bits t) a b) s l p → Found n (right_syms (bits t) a b (polar n p)) l.after r q → Found (suc n) (a ++ b) s (join_out (bits t) l r) (p ++ q)
    join n a b la lb s l r p q (lp, bp, wp, rp) (lq, bq, wq, rq) =
        let i : ℕ = length s.us in
        let ks : List Rule = rules_from rule i (2 ^ n) in
        let ls : List Rule = rules_from rule (length l.after.us) (2 ^ n) in
        let xs : List (Option Bool) = leaf t n (left_syms (bits t) a b) p in
        let ys : List (Option Bool) = leaf t n (right_syms (bits t) a b (polar n p)) q in
        let here : length l.after.us ≡ i + 2 ^ n =
        ap (λ (o : Walk Bool). length o.us) wp ∙ ap length (walk_us ks xs s ∙ ap (λ (v : List Bool). s.us ++ v) (sym rp)) ∙ length-append s.us p ∙ ap (λ (k : ℕ). i + k) lp in
        let eks : rules_from rule i (2 ^ suc n) ≡ ks ++ ls = rules_halves rule i n ∙ ap (λ (k : ℕ). ks ++ rules_from rule k (2 ^ n)) (sym here) in
        let exs : leaf t (suc n) (a ++ b) (p ++ q) ≡ xs ++ ys = leaf_append t n a b p q la lp in
        let lx : length ks ≡ length xs = length-tab (2 ^ n) (λ (j : ℕ). rule (i + j)) ∙ sym (length_leaf t n p lp (left_syms (bits t) a b) (length_lefts (bits t) (2 ^ n) a b la lb)) in (
          simp length-append (omega arith),
          ap₂ {C = List Bool} (λ (x y : List Bool). sums (bits t) x y ++ y) bp bq ∙ ap (λ (x : List Bool). x ++ polar n q) (sums-⊞ (polar n p) (polar n q)) ∙ sym (polar_append n p q lp),
          wq ∙ ap (walk ls ys) wp ∙ sym (walk_append ks ls xs ys s lx) ∙ ap₂ (λ (u : List Rule) (z : List (Option Bool)). walk u z s) (sym eks) (sym exs),
          ap₂ {C = List Bool} ◌++◌ rp (rq ∙ ap (reads ls ys) wp) ∙ sym (reads_append ks ls xs ys s lx) ∙ ap₂ (λ (u : List Rule) (z : List (Option Bool)). reads u z s) (sym eks) (sym exs),
        )

    abbrev Finds : ℕ → Type 0
    Finds n = (w : List (Option Bool)) → length w ≡ 2 ^ n → (s : Walk Bool) → (v : List Bool) × Found n w s (decode (bits t) rule n w s) v

    -- the right half, behind a left half with the bits p
    second : (n : ℕ) → Finds n → (a b : List (Option Bool)) → length a ≡ 2 ^ n → length b ≡ 2 ^ n → (s : Walk Bool) (l : Out Bool) (p : List Bool)
        → Found n (left_syms (bits t) a b) s l p
        → (v : List Bool) × Found (suc n) (a ++ b) s (join_out (bits t) l (decode (bits t) rule n (right_syms (bits t) a b l.block) l.after)) v
    second n ih a b la lb s l p fp =
        let e : l.block ≡ polar n p = fp.1 in
        let (q, fq) = ih (right_syms (bits t) a b (polar n p)) (length_rights (bits t) (2 ^ n) a b (polar n p) la lb (length-polar n p fp.0)) l.after in
        let r : List Bool → Out Bool = λ x. decode (bits t) rule n (right_syms (bits t) a b x) l.after in
        (p ++ q, subst (λ (x : List Bool). Found (suc n) (a ++ b) s (join_out (bits t) l (r x)) (p ++ q)) (sym e) (join n a b la lb s l (r (polar n p)) p q fp fq))

    pub found : (n : ℕ) → Finds n
    unfolding decode polar leaf
    found zero [] lw s = absurd (omega arith)
    found zero (x ∷ y ∷ w) lw s = absurd (omega arith)
    found zero (x ∷ []) lw s =
        let e : length s.us + 0 ≡ length s.us = omega arith in
        (value_at (bits t) (rule (length s.us)) x s.us s.next ∷ [], (refl, refl, rw e, rw e))
    found (suc n) w lw s =
        let a = take (2 ^ n) w in
        let b = drop (2 ^ n) w in
        let la : length a ≡ 2 ^ n = simp length-take (omega arith) in
        let lb : length b ≡ 2 ^ n = simp length-drop (omega arith) in
        let l = decode (bits t) rule n (left_syms (bits t) a b) s in
        let (p, fp) = found n (left_syms (bits t) a b) (length_lefts (bits t) (2 ^ n) a b la lb) s in
        let (v, fv) = second n (found n) a b la lb s l p fp in
        (v, subst (λ (x : List (Option Bool)). Found (suc n) x s (decode (bits t) rule (suc n) w s) v) (take-append-drop (2 ^ n) w) fv)
