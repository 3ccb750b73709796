-- Records of one length, end to end.
--     flatten_append, flatten_one, flatten_each     lists made flat: of two lists, of one record, at once or one by one
--     wide-tab          a table of records of one length
--     record_of_lem         record k of bytes that start with records
--     put_record        the next record put behind those before it
use mathlib.Core.Path.{◌≡◌, refl, sym, ap, ap₂, ◌∙◌}
use Prim.Native.Nat.{ℕ, zero, suc, ◌+◌, ◌-◌, ◌*◌, ◌<◌}
use native.Mathlib.Omega.{arith}
use mathlib.Core.List.{List, [], ◌∷◌, ◌++◌, map, flatten, append_assoc, append-nil}
use lib.ListN.{length, drop, get_or}
use lib.Seq.{drop-drop}
use borrow.Rule.Slice.PartMut.{put_mid}
use Rattle.bits.specs.Vectors.{tab}
use Rattle.bits.specs.Rows.{Wide, row}
use Rattle.bits.proofs.Tests.{length-tab, tab-at, tab_snoc}
use Rattle.bits.proofs.RowLaws.{length-flatten, rows_front}
use Rattle.bits.proofs.RowsWritten.{put-behind}

pub flatten_append : {A : Type 0} (a b : List (List A)) → flatten (a ++ b) ≡ flatten a ++ flatten b
unfolding flatten
flatten_append [] b = refl
flatten_append {A} (x ∷ a) b = ap (λ (t : List A). x ++ t) (flatten_append a b) ∙ sym (append_assoc x (flatten a) (flatten b))

pub flatten_one : {A : Type 0} (x : List A) → flatten (x ∷ []) ≡ x
unfolding flatten
flatten_one x = append-nil x

pub flatten_each : {A B : Type 0} (f : A → List (List B)) (l : List A) → flatten (flatten (map f l)) ≡ flatten (map (λ (a : A). flatten (f a)) l)
unfolding flatten
flatten_each f [] = refl
flatten_each {B = B} f (a ∷ l) = flatten_append (f a) (flatten (map f l)) ∙ ap (λ (t : List B). flatten (f a) ++ t) (flatten_each f l)

pub wide-tab : (w k : ℕ) (f : ℕ → List ℕ) → ((i : ℕ) → length (f i) ≡ w) → Wide w (tab k f)
wide-tab w zero f h = tt
wide-tab w (suc k) f h = (h 0, wide-tab w k (λ (i : ℕ). f (suc i)) (λ i. h (suc i)))

pub record_of_lem : (w : ℕ) (rs : List (List ℕ)) (later : List ℕ) → Wide w rs → (k : ℕ) → k < length rs → row w (flatten rs ++ later) k ≡ get_or rs k []
record_of_lem w rs later h k l =
    sym (tab-at (length rs) (row w (flatten rs ++ later)) k [] l) ∙ ap (λ (t : List (List ℕ)). get_or t k []) (rows_front w rs later h)

module _ (A : ℕ) (f : ℕ → List ℕ) (h : (i : ℕ) → length (f i) ≡ A) (o : List ℕ) where
  tab-long : (i : ℕ) → length (flatten (tab i f)) ≡ i * A
  tab-long i = length-flatten A (tab i f) (wide-tab A i f h) ∙ ap (λ (k : ℕ). k * A) (length-tab i f)

  -- l holds i records and goes on as o; x is put behind them
  pub put_record : (i : ℕ) (l x : List ℕ) → l ≡ flatten (tab i f) ++ drop (i * A) o → x ≡ f i → put_mid (i * A) (i * A + A - i * A) l x ≡ flatten (tab (i + 1) f) ++ drop ((i + 1) * A) o
  put_record i l x el e =
      let k : i * A + A - i * A ≡ A = omega arith in
      let m : i * A + A ≡ (i + 1) * A = omega arith in
      ap (λ (t : List ℕ). put_mid (i * A) (i * A + A - i * A) t x) el
      ∙ put-behind (flatten (tab i f)) (drop (i * A) o) x (i * A) (i * A + A - i * A) (tab-long i)
      ∙ ap₂ {C = List ℕ} (λ t j. flatten (tab i f) ++ (t ++ drop j (drop (i * A) o))) e k
      ∙ ap (λ (t : List ℕ). flatten (tab i f) ++ (f i ++ t)) (drop-drop A (i * A) o ∙ ap (λ (j : ℕ). drop j o) m)
      ∙ sym (append_assoc (flatten (tab i f)) (f i) (drop ((i + 1) * A) o))
      ∙ ap (λ (t : List ℕ). t ++ drop ((i + 1) * A) o) (sym (ap flatten (tab_snoc i f) ∙ flatten_append (tab i f) (f i ∷ []) ∙ ap (λ (t : List ℕ). flatten (tab i f) ++ t) (flatten_one (f i))))
