-- What the ops on parts of a buffer leave.
--     take_least, drop_least      as many as are asked for, or all
--     fitted                      a copy of as much as there is room for
--     room_out, room_back         there is room for both copies
--     copied-out, copied_back     the front of an output, copied out of it, and what comes back copied to it
--     beside_is                   the front and the rest of an output as two buffers
--     least_is                    the same, of as many bytes as are asked for, or all
use mathlib.Core.Path.{◌≡◌, sym, ap, ap₂, ◌∙◌}
use mathlib.Core.Logic.{⊎_elim}
use Prim.Native.Nat.{ℕ, min, ◌-◌, ◌≤◌, ◌<◌}
use native.Mathlib.Omega.{arith}
use mathlib.Core.List.{List, ◌++◌, append-nil}
use lib.ListN.{length, take, drop, drop_of_length-le}
use lib.Seq.{take_all, take-length, length-take-le, take_at, drop_at}
use borrow.Rule.Slice.PartMut.{put_mid}
use Rattle.bits.proofs.Tests.{le_or_lt}
use Rattle.bits.proofs.Parts.{front, from, back}
use Rattle.meaning.specs.declared.Answer.{Answer}
use Rattle.strip_stream.specs.Strips.{leaving_both, answering_strips}

pub take_least : (n k : ℕ) (l : List ℕ) → k ≡ min n (length l) → take k l ≡ take n l
take_least n k l e = ⊎_elim some all (le_or_lt n (length l))
  where
    some : n ≤ length l → take k l ≡ take n l
    some h = let same : k ≡ n = omega arith in ap (λ (i : ℕ). take i l) same

    all : length l < n → take k l ≡ take n l
    all h = take_all k l (omega arith) ∙ sym (take_all n l (omega arith))

pub drop_least : (n k : ℕ) (l : List ℕ) → k ≡ min n (length l) → drop k l ≡ drop n l
drop_least n k l e = ⊎_elim some none (le_or_lt n (length l))
  where
    some : n ≤ length l → drop k l ≡ drop n l
    some h = let same : k ≡ n = omega arith in ap (λ (i : ℕ). drop i l) same

    none : length l < n → drop k l ≡ drop n l
    none h = drop_of_length-le l {i = k} (omega arith) ∙ sym (drop_of_length-le l {i = n} (omega arith))

-- p are the first k of `from`
pub fitted : (from to p x : List ℕ) (k : ℕ) → k ≡ min (length from) (length to) → p ≡ take k from → x ≡ take (length p) p ++ drop (length p) to
    → x ≡ take (length to) from ++ drop (length from) to
fitted from to p x k e f q =
    let long : length p ≡ k = ap length f ∙ length-take-le k from (omega arith) in
    q ∙ ap₂ {C = List ℕ} (λ a b. a ++ b) (take-length p ∙ f ∙ take_least (length to) k from (omega arith)) (drop_least (length from) (length p) to (long ∙ e))

-- a copy into a slice of the same length
copy_over : (p d x : List ℕ) → length d ≤ length p → x ≡ take (length p) p ++ drop (length p) d → x ≡ p
copy_over p d x h q = q ∙ ap₂ {C = List ℕ} (λ a b. a ++ b) (take-length p) (drop_of_length-le d h) ∙ append-nil p

module _ (out records : List ℕ) (m : ℕ) (h : m ≤ length out) (l : length records ≡ m) where
  -- the records before the call are the output's front
  pub copied-out : (x : List ℕ) → x ≡ take (length (take (m - 0) out)) (take (m - 0) out) ++ drop (length (take (m - 0) out)) records → x ≡ take m out
  copied-out x q =
      let e : length (take (m - 0) out) ≡ m = ap length (front m out) ∙ length-take-le m out h in
      copy_over (take (m - 0) out) records x (omega arith) q ∙ front m out

  -- there is room for the records where they are copied from, and where they are copied to
  pub room_out : length (take (m - 0) out) ≤ length records
  room_out = omega (arith, ap length (front m out) ∙ length-take-le m out h, l)

  pub room_back : (rep rec : List ℕ) → length rec ≡ m → length rec ≤ length (take (m - 0) (put_mid m (length out - m) out rep))
  room_back rep rec k =
      let o = put_mid m (length out - m) out rep in
      let n : length (take m out) ≡ m = length-take-le m out h in
      let z : length (take (m - 0) o) ≡ m = ap length (front m o ∙ ap (take m) (back out rep m) ∙ take_at (take m out) rep m n) ∙ n in
      omega (arith, z, k)

  -- after it the output is the two end to end: `rep` in place of the rest, and `rec` copied to the front
  pub copied_back : (rep rec y : List ℕ) → length rec ≡ m
      → (let o = put_mid m (length out - m) out rep in y ≡ take (length rec) rec ++ drop (length rec) (take (m - 0) o) → y ++ drop (m - 0) o ≡ rec ++ rep)
  copied_back rep rec y k q =
      let o = put_mid m (length out - m) out rep in
      let e : o ≡ take m out ++ rep = back out rep m in
      let n : length (take m out) ≡ m = length-take-le m out h in
      let z : length (take (m - 0) o) ≡ m = ap length (front m o ∙ ap (take m) e ∙ take_at (take m out) rep m n) ∙ n in
      let j : m - 0 ≡ m = omega arith in
      ap₂ {C = List ℕ} (λ a b. a ++ b) (copy_over rec (take (m - 0) o) y (omega arith) q) (ap (λ (i : ℕ). drop i o) j ∙ ap (drop m) e ∙ drop_at (take m out) rep m n)

-- so its front and its rest are what the call leaves
pub beside_is : (s c input out records : List ℕ) (k m : ℕ) (h : m ≤ length out) (l : length records ≡ m) (first rep rec y : List ℕ) (a : Answer)
    → first ≡ take (length (take (m - 0) out)) (take (m - 0) out) ++ drop (length (take (m - 0) out)) records
    → leaving_both rep rec a ≡ answering_strips s (take (k - 0) c) (take (length c - k) (drop k c)) input (take (length out - m) (drop m out)) first
    → length rec ≡ m
    → (let o = put_mid m (length out - m) out rep in y ≡ take (length rec) rec ++ drop (length rec) (take (m - 0) o)
    → leaving_both (drop m (y ++ drop (m - 0) o)) (take m (y ++ drop (m - 0) o)) a ≡ answering_strips s (take k c) (drop k c) input (drop m out) (take m out))
beside_is s c input out records k m h l first rep rec y a q e n p =
    rw (copied_back out records m h l rep rec y n p, drop_at rec rep m n, take_at rec rep m n, e, copied-out out records m h l first q, front k c, from c k, from out m)

-- k and m are as many as are asked for, or all
pub least_is : (s c input out x : List ℕ) (n r k m : ℕ) (a : Answer) → k ≡ min n (length c) → m ≡ min r (length out) → length x ≡ length out
    → leaving_both (drop m x) (take m x) a ≡ answering_strips s (take k c) (drop k c) input (drop m out) (take m out)
    → leaving_both (drop r x) (take r x) a ≡ answering_strips s (take n c) (drop n c) input (drop r out) (take r out)
least_is s c input out x n r k m a e f l q =
    let g : m ≡ min r (length x) = f ∙ ap (min r) (sym l) in
    ap₂ (λ d t. leaving_both d t a) (sym (drop_least r m x g)) (sym (take_least r m x g)) ∙ q
    ∙ rw (take_least n k c e, drop_least n k c e, drop_least r m out f, take_least r m out f)
