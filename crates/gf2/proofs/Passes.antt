-- What elimination does row by row, and induction over its steps. Every law of gf2 comes from `solve-ind`, `span` or `back`.
--     has-clear               the bits of a row cleared
--     pass-..                 a step, row by row
--     solve_ind, solve_sized  an invariant of the steps; as many rows after as before
--     span, back              what XOR keeps holds of the rows after if of those before, and back
use mathlib.Core.Path.{◌≡◌, refl, sym, ap, ◌∙◌}
use mathlib.Core.Logic.{⊎_elim}
use Prim.Native.Nat.{ℕ, zero, suc, ◌+◌, ◌<◌}
use native.Mathlib.Omega.{arith}
use mathlib.Core.Bool.{Bool, true, false, ◌&&◌}
use mathlib.Core.List.{List, [], map}
use lib.ListN.{length, length-set, length-map}
use lib.Seq.{get_or-set_same, get_or-set_other}
use Rattle.bits.specs.Vectors.{◌⊕◌, pick}
use Rattle.bits.proofs.Xor.{⊕-false}
use Rattle.bits.proofs.Tests.{eq_or_ne, get_or_map}
use Rattle.bits.specs.Rows.{Row, ◌⊻◌, has, at}
use Rattle.gf2.specs.Solve.{clear_at, clear, lead, Sys, sys, pass, step, steps, solve}
use Rattle.gf2.specs.System.{Each}
use Rattle.bits.proofs.RowXor.{has-⊻}

-- ---- a row cleared

pub has-clear : (t b : ℕ) (e x : Row) → has t (clear b e x) ≡ has t x ⊕ (has b x && has t e)
unfolding clear_at
has-clear t b e x = go (has b x)
  where
    go : (s : Bool) → has t (pick s (x ⊻ e) x) ≡ has t x ⊕ (s && has t e)
    go true = has-⊻ t x e
    go false = sym (⊕-false (has t x))

-- what holds of x and of x + e holds of x cleared
clear-either : (P : Row → Type 0) (b : ℕ) (e x : Row) → P x → P (x ⊻ e) → P (clear b e x)
unfolding clear_at
clear-either P b e x p q = go (has b x)
  where
    go : (s : Bool) → P (pick s (x ⊻ e) x)
    go true = q
    go false = p

-- and back
either-clear : (P : Row → Type 0) (b : ℕ) (e x : Row) → (P (x ⊻ e) → P x) → P (clear b e x) → P x
unfolding clear_at
either-clear P b e x f = go (has b x)
  where
    go : (s : Bool) → P (pick s (x ⊻ e) x) → P x
    go true h = f h
    go false h = h

-- ---- a step, row by row

module _ (b i : ℕ) (s : Sys) where
  pub pass-eqs-length : length (pass (suc b) i s).eqs ≡ length s.eqs
  unfolding pass
  pass-eqs-length = length-set (map (clear b (at s.eqs i)) s.eqs) i (at s.eqs i) ∙ length-map s.eqs (clear b (at s.eqs i))

  pub pass-rest-length : length (pass (suc b) i s).rest ≡ length s.rest
  unfolding pass
  pass-rest-length = length-map s.rest (clear b (at s.eqs i))

  pub pass-rank : (pass (suc b) i s).rank ≡ s.rank + 1
  unfolding pass
  pass-rank = refl

  pub pass_same : i < length s.eqs → at (pass (suc b) i s).eqs i ≡ at s.eqs i
  unfolding pass
  pass_same h = get_or-set_same (map (clear b (at s.eqs i)) s.eqs) i (at s.eqs i) [] (rw (length-map s.eqs (clear b (at s.eqs i))) h)

  pub pass_other : (j : ℕ) → j < length s.eqs → (j ≡ i → ⊥) → at (pass (suc b) i s).eqs j ≡ clear b (at s.eqs i) (at s.eqs j)
  unfolding pass
  pass_other j h n = get_or-set_other (map (clear b (at s.eqs i)) s.eqs) i j (at s.eqs i) [] n ∙ get_or_map (clear b (at s.eqs i)) s.eqs j [] [] h

  pub pass-rest : (j : ℕ) → j < length s.rest → at (pass (suc b) i s).rest j ≡ clear b (at s.eqs i) (at s.rest j)
  unfolding pass
  pass-rest j h = get_or_map (clear b (at s.eqs i)) s.rest j [] [] h

-- ---- induction over the steps

-- as many rows as at first
abbrev pub Sized : List Row → List Row → Sys → Type 0
Sized e r s = (length s.eqs ≡ length e) × (length s.rest ≡ length r)

module _ (c : ℕ) (e r : List Row) (I : ℕ → Sys → Type 0)
    (none : (i : ℕ) (s : Sys) → Sized e r s → i < length e → lead c (at s.eqs i) ≡ 0 → I i s → I (suc i) s)
    (some : (i b : ℕ) (s : Sys) → Sized e r s → i < length e → lead c (at s.eqs i) ≡ suc b → I i s → I (suc i) (pass (suc b) i s)) where
  one : (i n : ℕ) (s : Sys) → lead c (at s.eqs i) ≡ n → Sized e r s → i < length e → I i s → Sized e r (pass n i s) × I (suc i) (pass n i s)
  unfolding pass
  one i zero s q z h k = (z, none i s z h q k)
  one i (suc b) s q z h k = ((pass-eqs-length b i s ∙ z.0, pass-rest-length b i s ∙ z.1), some i b s z h q k)

  many : (n i : ℕ) (s : Sys) → i + n ≡ length e → Sized e r s → I i s → Sized e r (steps c n i s) × I (length e) (steps c n i s)
  unfolding steps
  many zero i s q z k = let p : i ≡ length e = omega arith in (z, rw p at k)
  many (suc n) i s q z k =
      let o = one i (lead c (at s.eqs i)) s refl z (omega arith) k in
      many n (suc i) (step c i s) (omega arith) o.0 o.1

  pub solve_ind : I 0 (sys e r 0) → Sized e r (solve c e r) × I (length e) (solve c e r)
  unfolding solve
  solve_ind k = many (length e) 0 (sys e r 0) (omega arith) (refl, refl) k

pub solve_sized : (c : ℕ) (e r : List Row) → Sized e r (solve c e r)
solve_sized c e r = (solve_ind c e r (λ i s. Unit {0}) (λ i s z h q k. tt) (λ i b s z h q k. tt) tt).0

-- ---- what XOR keeps

module _ (c : ℕ) (e r : List Row) (P : Row → Type 0) (closed : (x y : Row) → P x → P y → P (x ⊻ y)) where
  -- what XOR keeps holds of all equations after if of all before; Q j, which adding an equation keeps, of row j of the rest
  pub span : (Q : ℕ → Row → Type 0) → ((j : ℕ) (x y : Row) → Q j x → P y → Q j (x ⊻ y)) → Each P e → ((j : ℕ) → j < length r → Q j (at r j))
      → Each P (solve c e r).eqs × ((j : ℕ) → j < length r → Q j (at (solve c e r).rest j))
  span Q moved he hr =
      let o = solve_ind c e r (λ i s. ((j : ℕ) → j < length e → P (at s.eqs j)) × ((j : ℕ) → j < length r → Q j (at s.rest j)))
      (λ i s z h q k. k)
      (λ i b s z h q k. (
        (λ j l. ⊎_elim
            (λ (w : j ≡ i). rw (ap (at (pass (suc b) i s).eqs) w ∙ pass_same b i s (omega arith)) (k.0 i h))
            (λ (w : j ≡ i → ⊥). rw (pass_other b i s j (omega arith) w) (clear-either P b (at s.eqs i) (at s.eqs j) (k.0 j l) (closed (at s.eqs j) (at s.eqs i) (k.0 j l) (k.0 i h))))
            (eq_or_ne j i)),
        (λ j l. rw (pass-rest b i s j (omega arith)) (clear-either (Q j) b (at s.eqs i) (at s.rest j) (k.1 j l) (moved j (at s.rest j) (at s.eqs i) (k.1 j l) (k.0 i h)))),
      ))
      (he, hr) in
      let z = o.0 in
      ((λ i l. o.1.0 i (omega arith)), o.1.1)

  -- and of all before if of all after
  pub back : ((x y : Row) → P (x ⊻ y) → P y → P x) → Each P (solve c e r).eqs → Each P e
  back cancel ha =
      let o = solve_ind c e r (λ i s. ((j : ℕ) → j < length e → P (at s.eqs j)) → Each P e)
      (λ i s z h q k. k)
      (λ i b s z h q k a.
      let p : P (at s.eqs i) = rw (← (pass_same b i s (omega arith))) (a i h) in
      k (λ j l. ⊎_elim
      (λ (w : j ≡ i). rw w p)
      (λ (w : j ≡ i → ⊥). either-clear P b (at s.eqs i) (at s.eqs j) (λ (m : P (at s.eqs j ⊻ at s.eqs i)). cancel (at s.eqs j) (at s.eqs i) m p) (rw (pass_other b i s j (omega arith) w) at (a j l)))
      (eq_or_ne j i)))
      (λ a. a) in
      let z = o.0 in
      o.1 (λ j l. ha j (omega arith))
