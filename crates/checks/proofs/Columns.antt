-- Rows written column by column.
--     Putting, ..          one column, written so far
--     column_bound         column k of the check's rows is the check over words
--     columns_all          where all columns are, the words are the check's rows
use mathlib.Core.Path.{◌≡◌, refl, sym, ap, ap₂, ◌∙◌, subst}
use mathlib.Core.Logic.{◌⊎◌, inl, inr, ⊎_elim}
use Prim.Native.Nat.{ℕ, zero, suc, ◌+◌, ◌*◌, ◌^◌, ◌≤◌, ◌<◌}
use native.Mathlib.Omega.{arith}
use mathlib.Core.Bool.{Bool, true, false}
use mathlib.Core.List.{List, [], flatten}
use lib.ListN.{length, get_or, set, replicate, length-set, length-replicate, get_or-replicate}
use lib.Seq.{ext_get_or, get_or-set_same, get_or-set_other, take_all}
use lib.Dec.{eqb}
use lib.Bits.{bit_xor}
use borrow.Author.Tests.{eqb-true, eqb-false}
use Rattle.bits.specs.Vectors.{bit, tab}
use Rattle.bits.specs.Rows.{Row, row, rows, Wide}
use Rattle.bits.proofs.Tests.{tab-get_or}
use Rattle.bits.proofs.RowLaws.{length_part, get_or_part, row_fit, flatten-rows}
use Rattle.bits.proofs.RowXor.{get_or-⊻, length-⊻}
use Rattle.meaning.specs.Sheet.{rules}
use Rattle.model.specs.Related.{Along, nil, cons, Bound}
use Rattle.model.proofs.Relate.{along_length, checks_bound}
use Rattle.model.specs.RowValues.{row_values}
use Rattle.checks.specs.Registers.{word_values, unit_word, column, remainder, ColumnsUpTo}
use Rattle.checks.specs.Checking.{check_of}
use Rattle.checks.proofs.Shifting.{checks-is, length-remainder}

-- ---- one column

-- two words of one list of rows are at one place only where row and word agree
place_one : (i j q k w : ℕ) → q < w → k < w → i * w + q ≡ j * w + k → (i ≡ j) × (q ≡ k)
place_one zero zero q k w hq hk e = (refl, omega arith)
place_one zero (suc j) q k w hq hk e = absurd (omega arith)
place_one (suc i) zero q k w hq hk e = absurd (omega arith)
place_one (suc i) (suc j) q k w hq hk e = let (a, b) = place_one i j q k w hq hk (omega arith) in (ap suc a, b)

-- below the next number: below this one, or it
last_or : (i j : ℕ) → i < j + 1 → (i < j) ⊎ (i ≡ j)
last_or i j h = go (eqb i j) refl
  where
    go : (t : Bool) → eqb i j ≡ t → (i < j) ⊎ (i ≡ j)
    go true e = inr (eqb-true i j e)
    go false e = let n = eqb-false i j e in inl (omega arith)

module _ (w k : ℕ) (s e₀ : List ℕ) where
  -- the first j words of s are written
  pub record Putting (e : List ℕ) (j : ℕ) : Type 0 where
    pub some : j ≤ length s
    pub size : length e ≡ length e₀
    pub new : (i : ℕ) → i < j → get_or e (i * w + k) 0 ≡ get_or s i 0
    pub old : (i q : ℕ) → q < w → (q ≡ k → ⊥) → get_or e (i * w + q) 0 ≡ get_or e₀ (i * w + q) 0

  -- where word k of row j is
  pub put-room : (j : ℕ) → length e₀ ≡ length s * w → k < w → j < length s → j * w + k < length e₀
  put-room j l hk h = let f = row_fit j (length s) w h in omega arith

  pub putting_next : (e : List ℕ) (j : ℕ) → Putting e j → length e₀ ≡ length s * w → k < w → j < length s → Putting (set e (j * w + k) (get_or s j 0)) (j + 1)
  putting_next e j p l hk h =
      let z = get_or s j 0 in
      let f = put-room j l hk h in
      record {
        some = omega arith;
        size = length-set e (j * w + k) z ∙ p.size;
        new =
            λ i hi.
            ⊎_elim
            (λ (q : i < j). get_or-set_other e (j * w + k) (i * w + k) z 0 (λ x. let y = place_one i j k k w hk hk x in omega arith) ∙ p.new i q)
            (λ (q : i ≡ j). rw q (get_or-set_same e (j * w + k) z 0 (omega (arith, p.size))))
            (last_or i j hi);
        old = λ i q hq n. get_or-set_other e (j * w + k) (i * w + q) z 0 (λ x. n (place_one i j q k w hq hk x).1) ∙ p.old i q hq n;
      }

-- ---- column k of the check's rows

-- word k of a row of w words
abbrev pub WordOf : ℕ → ℕ → Row → ℕ → Type 0
WordOf w k x a = (get_or x k 0 ≡ a) × (length x ≡ w)

word_bound : (c w k : ℕ) → c < w → k < w → Bound (WordOf w k) 0 (row_values c w) (word_values (unit_word c k))
word_bound c w k hc hk =
    record {
      plus = λ {a} {a'} p q. (get_or-⊻ a a' k ∙ ap₂ bit_xor p.0 q.0, length-⊻ a a' w p.1 q.1);
      nought = (get_or-replicate w k 0 0 hk, length-replicate w 0);
      unit = (go (eqb k c) refl, length-set (replicate w 0) c 1 ∙ length-replicate w 0);
      unknown = λ i h. absurd (omega arith);
    }
  where
    go : (t : Bool) → eqb k c ≡ t → get_or (set (replicate w 0) c 1) k 0 ≡ bit t
    go true e = let q = eqb-true k c e in rw q (get_or-set_same (replicate w 0) c 1 0 (let l : length (replicate {A = ℕ} w 0) ≡ w = length-replicate w 0 in omega arith))
    go false e = get_or-set_other (replicate w 0) c k 1 0 (eqb-false k c e) ∙ get_or-replicate w k 0 0 hk

module _ {A B : Type 0} {R : A → B → Type 0} where
  along_tab : (n : ℕ) (f : ℕ → A) (g : ℕ → B) → ((i : ℕ) → i < n → R (f i) (g i)) → Along R (tab n f) (tab n g)
  along_tab zero f g h = nil
  along_tab (suc n) f g h = cons (h zero (omega arith)) (along_tab n (λ (i : ℕ). f (suc i)) (λ (i : ℕ). g (suc i)) (λ i q. h (suc i) (omega arith)))

  along_at : {l : List A} {m : List B} → Along R l m → (j : ℕ) (a : A) (b : B) → j < length l → R (get_or l j a) (get_or m j b)
  along_at nil j a b h = absurd (omega arith)
  along_at (cons p t) zero a b h = p
  along_at (cons p t) (suc j) a b h = along_at t j a b (omega arith)

along_wide : {w k : ℕ} {l : List Row} {m : List ℕ} → Along (WordOf w k) l m → Wide w l
along_wide nil = tt
along_wide (cons h t) = (h.1, along_wide t)

module _ (n : ℕ) (sheet : List ℕ) (r c w : ℕ) (us : List ℕ) (hc : c < w) (lu : length us ≡ 2 ^ n * w) where
  pub column_bound : (k : ℕ) → k < w → Along (WordOf w k) (check_of n sheet r c w us) (remainder r sheet (2 ^ n) us w c k)
  unfolding remainder rules
  column_bound k hk =
      subst (Along (WordOf w k) (check_of n sheet r c w us)) (checks-is (unit_word c k) r (rules n sheet) (column w (2 ^ n) us k))
      (checks_bound 0 (row_values c w) (word_values (unit_word c k)) (word_bound c w k hc hk) r (rules n sheet)
      (along_tab (2 ^ n) (row w us) (λ (i : ℕ). get_or us (i * w + k) 0) (λ i h. (get_or_part us (i * w) w k hk, length_part us (i * w) w (let f = row_fit i (2 ^ n) w h in omega arith)))))

  pub length-check : length (check_of n sheet r c w us) ≡ r
  length-check = along_length (column_bound c hc) ∙ length-remainder r sheet (2 ^ n) us w c c

  pub check-wide : Wide w (check_of n sheet r c w us)
  check-wide = along_wide (column_bound c hc)

  -- where all columns are the registers', the words are the check's rows
  pub columns_all : (e : List ℕ) → length e ≡ r * w → ColumnsUpTo r w (remainder r sheet (2 ^ n) us w c) w e → e ≡ flatten (check_of n sheet r c w us)
  columns_all e l p =
      sym (take_all (r * w) e (omega arith)) ∙ sym (flatten-rows w r e)
      ∙ ap flatten (sym (ap (λ (m : ℕ). rows w m e) length-check) ∙ tab-get_or (check_of n sheet r c w us) [] (row w e) same)
    where
      same : (j : ℕ) → j < length (check_of n sheet r c w us) → row w e j ≡ get_or (check_of n sheet r c w us) j []
      same j h =
          let lc = length-check in
          let f = row_fit j r w (omega arith) in
          let lr : length (row w e j) ≡ w = length_part e (j * w) w (omega arith) in
          ext_get_or 0 (row w e j) (get_or (check_of n sheet r c w us) j []) (lr ∙ sym (along_at (column_bound c hc) j [] 0 h).1)
          (λ q hq.
          let i : q < w = omega arith in
          get_or_part e (j * w) w q i ∙ p j q (omega arith) i ∙ sym (along_at (column_bound q i) j [] 0 h).0)
