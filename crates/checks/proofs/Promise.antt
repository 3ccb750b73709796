-- What the promise of `check_rows` comes to.
--     part-..                  the rows that are lent, within the list; the records within the sheet
--     left_alone, appended     its two cases, in the values that the code has by then
--     checked_once             any two results that it allows are equal
use mathlib.Core.Path.{◌≡◌, sym, ap, ap₂, ◌∙◌, subst}
use Prim.Native.Nat.{ℕ, zero, suc, ◌+◌, ◌-◌, ◌*◌, ◌^◌, ◌≤◌, ◌<◌}
use native.Mathlib.Omega.{arith}
use native.Mathlib.Nat.{add-mul, mul-suc}
use mathlib.Core.Bool.{Bool, true, false}
use mathlib.Core.List.{List, ◌++◌, append_assoc, flatten}
use lib.ListN.{length, take, drop, length-drop}
use lib.Seq.{length-take-le}
use borrow.Rule.Slice.PartMut.{put_mid, Post-is}
use Rattle.bits.specs.Vectors.{pick}
use Rattle.checks.specs.Registers.{remainder, ColumnsUpTo}
use Rattle.checks.specs.Checking.{check_fits, Checked, checked, check_of, checking}
use Rattle.checks.proofs.Testing.{ready}
use Rattle.checks.proofs.Columns.{columns_all}

-- ---- the rows that are lent

-- r rows behind the first m end at m + r
pub part-size : (m r w : ℕ) → (m + r) * w ≡ m * w + r * w
part-size m r w = add-mul m r w

pub part_length : (m r w : ℕ) (l : List ℕ) → (m + r) * w ≤ length l → length (take ((m + r) * w - m * w) (drop (m * w) l)) ≡ r * w
part_length m r w l h =
    let e = part-size m r w in
    length-take-le ((m + r) * w - m * w) (drop (m * w) l) (simp length-drop (omega arith)) ∙ omega arith

-- a row has at least one word, so there are at most as many rows as words
pub part-rows : (k c w n : ℕ) → c < w → k * w ≤ n → k ≤ n
part-rows k c zero n h q = absurd (omega arith)
part-rows k c (suc w) n h q = omega (arith, mul-suc k w)

-- ---- its two cases

module _ (n : ℕ) (sheet : List ℕ) (r c w : ℕ) (us : List ℕ) (m : ℕ) (eqs : List ℕ) where
  pub left_alone : check_fits n (length sheet) r c w (length us) m (length eqs) ≡ false → checked false eqs ≡ checking n sheet r c w us m eqs
  unfolding checking
  left_alone h = rw h

  pub appended : check_fits n (length sheet) r c w (length us) m (length eqs) ≡ true → (size : ℕ) → size ≡ 2 ^ n → (e : List ℕ) → length e ≡ r * w
      → ColumnsUpTo r w (remainder r sheet size us w c) w e → checked true (put_mid (m * w) ((m + r) * w - m * w) eqs e) ≡ checking n sheet r c w us m eqs
  unfolding checking
  appended h size q e l p =
      let R = ready n (length sheet) r c w (length us) m (length eqs) h in
      let s = part-size m r w in
      let x : e ≡ flatten (check_of n sheet r c w us) = columns_all n sheet r c w us R.constant R.rows_u e l (subst (λ (k : ℕ). ColumnsUpTo r w (remainder r sheet k us w c) w e) q p) in
      let y : drop ((m + r) * w - m * w) (drop (m * w) eqs) ≡ drop ((m + r) * w) eqs = Post-is (m * w) ((m + r) * w) eqs (omega arith) in
      rw h
      (ap (checked true)
      (ap₂ (λ (a b : List ℕ). take (m * w) eqs ++ (a ++ b)) x y ∙ sym (append_assoc (take (m * w) eqs) (flatten (check_of n sheet r c w us)) (drop ((m + r) * w) eqs))))

-- ---- after the call

-- what a caller has where all fits
pub check-tells : (n : ℕ) (sheet : List ℕ) (r c w : ℕ) (us : List ℕ) (m : ℕ) (eqs : List ℕ) → check_fits n (length sheet) r c w (length us) m (length eqs) ≡ true → (t : Bool) (e : List ℕ) → checked t e ≡ checking n sheet r c w us m eqs
    → e ≡ take (m * w) eqs ++ flatten (check_of n sheet r c w us) ++ drop ((m + r) * w) eqs
unfolding checking
check-tells n sheet r c w us m eqs h t e q =
    ap (λ (o : Checked). o.eqs) (q ∙ ap (λ (b : Bool). pick b (checked true (take (m * w) eqs ++ flatten (check_of n sheet r c w us) ++ drop ((m + r) * w) eqs)) (checked false eqs)) h)

-- ---- one result

pub checked_once : (a b : Bool) (e e' : List ℕ) (meant : Checked) → checked a e ≡ meant → checked b e' ≡ meant → (a ≡ b) × (e ≡ e')
checked_once a b e e' meant p q =
    let s : checked a e ≡ checked b e' = p ∙ sym q in
    (ap (λ (o : Checked). o.answer) s, ap (λ (o : Checked). o.eqs) s)
