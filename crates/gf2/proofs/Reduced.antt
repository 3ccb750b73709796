-- Law 2: after elimination the pivot of each equation stands in no other row, and the rank counts the pivots.
--     reduced                the pivot of an equation is in no other equation and in no row of the second slice
--     distinct               so no two equations have the same pivot
--     rank-counts            the rank is the number of equations that have a coefficient left
--     no_coefficient, no_words, zero-words     the others have none: no bit, and only zeros in their first c words; and back
use mathlib.Core.Path.{◌≡◌, refl, sym, ap, ◌∙◌}
use mathlib.Core.Logic.{◌⊎◌, inl, inr, ⊎_elim}
use Prim.Native.Nat.{ℕ, zero, suc, ◌+◌, ◌*◌, ◌/◌, ◌%◌, ◌^◌, ◌<◌}
use native.Mathlib.Omega.{arith}
use native.Mathlib.Nat.{eq-or-lt_of_le, zero-add, add_comm}
use mathlib.Core.Bool.{Bool, true, false, ◌&&◌, not}
use mathlib.Core.List.{List, []}
use lib.ListN.{length, get_or}
use lib.Dec.{eqb, eqb-suc-zero}
use Rattle.bits.specs.Vectors.{◌⊕◌, bit, pick, count}
use Rattle.bits.proofs.Tests.{not-both, eq_or_ne}
use Rattle.bits.proofs.WordBits.{no_bits, zero_bit}
use Rattle.bits.specs.Rows.{Row, ◌⊻◌, has_at, has, at}
use Rattle.gf2.specs.Solve.{clear_at, clear, lead, Sys, sys, pass, solve}
use Rattle.gf2.specs.System.{led, Cleared, Reduced, Distinct}
use Rattle.gf2.proofs.Tally.{tally, tally_ext, count_tally}
use Rattle.bits.proofs.RowXor.{has-is}
use Rattle.gf2.proofs.Leads.{top-none, lead-holds, lead_above, lead_le, below_lead, lead_add}
use Rattle.gf2.proofs.Passes.{has-clear, pass-eqs-length, pass-rest-length, pass_same, pass_other, pass-rest, pass-rank, Sized, solve_ind}

-- ---- a step keeps it

module _ (c i b : ℕ) (s : Sys) (h : i < length s.eqs) (hl : lead c (at s.eqs i) ≡ suc b) (I : Cleared c i s.eqs s.rest) where
  abbrev x : Row
  x = at s.eqs i

  abbrev t : Sys
  t = pass (suc b) i s

  has_b : has b x ≡ true
  has_b = lead-holds c x b hl

  -- the bit b goes from all other rows
  gone : (y : Row) → has b (clear b x y) ≡ false
  gone y = has-clear b b x y ∙ go (has b y) (has b x) has_b
    where
      go : (u v : Bool) → v ≡ true → u ⊕ (u && v) ≡ false
      go true v q = rw q refl
      go false v q = refl

  -- and a bit that x has not stays away
  stays : (p : ℕ) (y : Row) → has p x ≡ false → has p y ≡ false → has p (clear b x y) ≡ false
  stays p y hx hy = has-clear p b x y ∙ go (has p y) (has b y) (has p x) hx hy
    where
      go : (u v w : Bool) → w ≡ false → u ≡ false → u ⊕ (v && w) ≡ false
      go u true w q m = rw (m, q) refl
      go u false w q m = rw m refl

  -- a row that was done keeps its lead
  kept : (k : ℕ) → k < i → lead c (at t.eqs k) ≡ lead c (at s.eqs k)
  unfolding clear_at
  kept k l = ap (lead c) (pass_other b i s k (omega arith) (λ (q : k ≡ i). omega arith)) ∙ go (has b (at s.eqs k)) (lead c (at s.eqs k)) refl refl
    where
      go : (u : Bool) (n : ℕ) → has b (at s.eqs k) ≡ u → lead c (at s.eqs k) ≡ n → lead c (pick u (at s.eqs k ⊻ x) (at s.eqs k)) ≡ n
      go false n q m = m
      go true zero q m = let w = lead_le c x in absurd (not-both q (lead_above c (at s.eqs k) b (omega arith) (omega arith)))
      go true (suc p) q m =
          let w = lead_le c x in
          let d = below_lead c (at s.eqs k) b (omega arith) q in
          let z : has p x ≡ false = I.others k p l m i h (λ (v : i ≡ k). omega arith) in
          lead_add c (at s.eqs k) x p b m hl (⊎_elim (λ (v : b ≡ p). absurd (not-both has_b (rw v z))) (λ (v : b < p). v) (eq-or-lt_of_le (omega arith)))

  cleared : Cleared c (suc i) t.eqs t.rest
  cleared = record {
    others = λ k p l m j d n. go k p (eq-or-lt_of_le (omega arith)) m j (rw (pass-eqs-length b i s) at d) n;
    rests = λ k p l m j d. gor k p (eq-or-lt_of_le (omega arith)) m j (rw (pass-rest-length b i s) at d);
  }
    where
      is_b : (k p : ℕ) → k ≡ i → lead c (at t.eqs k) ≡ suc p → p ≡ b
      is_b k p q m = let w : suc p ≡ suc b = sym m ∙ ap (λ (v : ℕ). lead c (at t.eqs v)) q ∙ ap (lead c) (pass_same b i s h) ∙ hl in omega arith

      go : (k p : ℕ) → (k ≡ i) ⊎ (k < i) → lead c (at t.eqs k) ≡ suc p → (j : ℕ) → j < length s.eqs → (j ≡ k → ⊥) → has p (at t.eqs j) ≡ false
      go k p (inl q) m j d n =
          rw (is_b k p q m, pass_other b i s j d (λ (v : j ≡ i). n (v ∙ sym q))) (gone (at s.eqs j))
      go k p (inr q) m j d n =
          let w : lead c (at s.eqs k) ≡ suc p = sym (kept k q) ∙ m in
          let hx : has p x ≡ false = I.others k p q w i h (λ (v : i ≡ k). omega arith) in
          ⊎_elim (λ (v : j ≡ i). ap (λ (y : ℕ). has p (at t.eqs y)) v ∙ ap (has p) (pass_same b i s h) ∙ hx)
          (λ (v : j ≡ i → ⊥). rw (pass_other b i s j d v) (stays p (at s.eqs j) hx (I.others k p q w j d n)))
          (eq_or_ne j i)

      gor : (k p : ℕ) → (k ≡ i) ⊎ (k < i) → lead c (at t.eqs k) ≡ suc p → (j : ℕ) → j < length s.rest → has p (at t.rest j) ≡ false
      gor k p (inl q) m j d = rw (is_b k p q m, pass-rest b i s j d) (gone (at s.rest j))
      gor k p (inr q) m j d =
          let w : lead c (at s.eqs k) ≡ suc p = sym (kept k q) ∙ m in
          rw (pass-rest b i s j d) (stays p (at s.rest j) (I.others k p q w i h (λ (v : i ≡ k). omega arith)) (I.rests k p q w j d))

-- ---- all steps

-- the rank so far: the pivots of the first i equations
abbrev pivots_to : ℕ → List Row → ℕ → ℕ
pivots_to c l i = tally (λ (k : ℕ). led c (at l k)) i

module _ (c : ℕ) (e r : List Row) where
  abbrev Inv : ℕ → Sys → Type 0
  Inv i s = Cleared c i s.eqs s.rest × (s.rank ≡ pivots_to c s.eqs i)

  first : Inv 0 (sys e r 0)
  unfolding tally
  first = (record { others = λ k b l m j d n. absurd (omega arith); rests = λ k b l m j d. absurd (omega arith) }, refl)

  none : (i : ℕ) (s : Sys) → Sized e r s → i < length e → lead c (at s.eqs i) ≡ 0 → Inv i s → Inv (suc i) s
  unfolding tally
  none i s z h q (I, n) = (
    record {
      others = λ k b l m j d u. ⊎_elim (λ (v : k ≡ i). absurd (impossible k b v m)) (λ (v : k < i). I.others k b v m j d u) (eq-or-lt_of_le (omega arith));
      rests = λ k b l m j d. ⊎_elim (λ (v : k ≡ i). absurd (impossible k b v m)) (λ (v : k < i). I.rests k b v m j d) (eq-or-lt_of_le (omega arith));
    },
    n ∙ sym (ap (λ (a : ℕ). bit (not (eqb a 0)) + pivots_to c s.eqs i) q ∙ zero-add (pivots_to c s.eqs i)),
  )
    where
      impossible : (k b : ℕ) → k ≡ i → lead c (at s.eqs k) ≡ suc b → ⊥
      impossible k b v m = let w : suc b ≡ 0 = sym m ∙ ap (λ (y : ℕ). lead c (at s.eqs y)) v ∙ q in omega arith

  some : (i b : ℕ) (s : Sys) → Sized e r s → i < length e → lead c (at s.eqs i) ≡ suc b → Inv i s → Inv (suc i) (pass (suc b) i s)
  unfolding tally
  some i b s z h q (I, n) =
      let d : i < length s.eqs = omega arith in (
        cleared c i b s d q I,
        pass-rank b i s ∙ ap (λ (m : ℕ). m + 1) (n ∙ sym (tally_ext (λ (k : ℕ). led c (at (pass (suc b) i s).eqs k)) (λ (k : ℕ). led c (at s.eqs k)) i (λ k l. ap (λ (a : ℕ). not (eqb a 0)) (kept c i b s d q I k l))))
            ∙ add_comm (pivots_to c (pass (suc b) i s).eqs i) 1
            ∙ ap (λ (u : Bool). bit (not u) + pivots_to c (pass (suc b) i s).eqs i) (sym (eqb-suc-zero b))
            ∙ ap (λ (a : ℕ). bit (not (eqb a 0)) + pivots_to c (pass (suc b) i s).eqs i) (sym (ap (lead c) (pass_same b i s d) ∙ q)),
      )

  all_done : Sized e r (solve c e r) × Inv (length e) (solve c e r)
  all_done = solve_ind c e r Inv none some first

  -- the reduced form
  pub reduced : Reduced c (solve c e r).eqs (solve c e r).rest
  reduced = let z = all_done.0 in rw z.0 all_done.1.0

  pub rank-counts : (solve c e r).rank ≡ count (led c) (solve c e r).eqs
  rank-counts = let z = all_done.0 in all_done.1.1 ∙ ap (pivots_to c (solve c e r).eqs) (sym z.0) ∙ sym (count_tally (led c) [] (solve c e r).eqs)

pub distinct : (c : ℕ) (e r : List Row) → Reduced c e r → Distinct c e
distinct c e r R j k b hj hk p q =
    ⊎_elim (λ (v : j ≡ k). v) (λ (v : j ≡ k → ⊥). absurd (not-both (lead-holds c (at e j) b p) (R.others k b hk q j hj v))) (eq_or_ne j k)

-- ---- the equations with no pivot

pub no_coefficient : (c : ℕ) (x : Row) → lead c x ≡ 0 → (b : ℕ) → b < 64 * c → has b x ≡ false
no_coefficient c x q b l = lead_above c x b (omega arith) l

pub no_words : (c : ℕ) (x : Row) → lead c x ≡ 0 → (k : ℕ) → k < c → get_or x k 0 < 2 ^ 64 → get_or x k 0 ≡ 0
unfolding has_at
no_words c x q k l f = no_bits 64 (get_or x k 0) f (λ j h. sym (has-is k j x h) ∙ no_coefficient c x q (64 * k + j) (omega arith))

pub zero-words : (c : ℕ) (x : Row) → ((k : ℕ) → k < c → get_or x k 0 ≡ 0) → lead c x ≡ 0
unfolding has_at
zero-words c x h = top-none (λ (b : ℕ). has b x) (64 * c) (λ b l. rw (h (b / 64) (omega arith)) (zero_bit (b % 64)))
