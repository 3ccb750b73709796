-- A record read back.
--     numbers_off     its numbers are those of the answer
--     strips_off      its strips, without what fills them up, are the bytes that decoding left
use mathlib.Core.Path.{◌≡◌, refl, sym, ap, ap₂, ◌∙◌}
use Prim.Native.Nat.{ℕ, ◌+◌, ◌-◌, ◌*◌, ◌/◌, ◌%◌, ◌^◌, ◌≤◌, ◌<◌}
use native.Mathlib.Omega.{arith}
use mathlib.Core.Bool.{true}
use mathlib.Core.List.{List, [], ◌∷◌, ◌++◌, map, flatten, append_assoc, append-nil}
use lib.ListN.{length, get_or, take, drop, replicate, length-append, length-drop, take-append-drop}
use lib.Seq.{take_at, drop_at, drop-drop, length-take-le}
use lib.Dec.{ltb}
use borrow.Author.Tests.{ltb-true}
use Rattle.bits.specs.Vectors.{all}
use Rattle.bits.proofs.Tests.{all-at}
use Rattle.meaning.specs.Limits.{largest_n, head_bytes, strip_width}
use Rattle.meaning.specs.Answers.{numbers_of, Reply, decoding}
use Rattle.meaning.specs.Stream.{two_bytes, header, padded, answer_record}
use Rattle.meaning.specs.declared.Answer.{Answer}
use Rattle.meaning.proofs.Heading.{numbers_five, two_bytes_lem, header-long}
use Rattle.stream.specs.Laying.{small}
use Rattle.stream.specs.ReadOff.{numbers_in, strips_in}
use Rattle.stream.proofs.Laying.{padded-long, word_fits, answered_small, answered_long}

-- ---- the numbers

five_read : (v z : List ℕ) → length v ≡ 5 → all (λ (x : ℕ). ltb x 65536) v ≡ true → numbers_in (flatten (map two_bytes v) ++ z) ≡ v
unfolding flatten numbers_in
five_read [] z l h = absurd (omega arith)
five_read (a ∷ []) z l h = absurd (omega arith)
five_read (a ∷ b ∷ []) z l h = absurd (omega arith)
five_read (a ∷ b ∷ c ∷ []) z l h = absurd (omega arith)
five_read (a ∷ b ∷ c ∷ d ∷ []) z l h = absurd (omega arith)
five_read (a ∷ b ∷ c ∷ d ∷ e ∷ []) z l h =
    let v : List ℕ = a ∷ b ∷ c ∷ d ∷ e ∷ [] in
    let back : (i : ℕ) → i < 5 → get_or v i 0 % 256 + 256 * (get_or v i 0 / 256 % 256) ≡ get_or v i 0 = λ i k. sym (two_bytes_lem (get_or v i 0) (ltb-true (get_or v i 0) 65536 (all-at (λ (x : ℕ). ltb x 65536) 0 v h i k))) in
    ap₂ {C = List ℕ} ◌∷◌ (back 0 (omega arith)) (ap₂ {C = List ℕ} ◌∷◌ (back 1 (omega arith)) (ap₂ {C = List ℕ} ◌∷◌ (back 2 (omega arith))
    (ap₂ {C = List ℕ} ◌∷◌ (back 3 (omega arith)) (ap {B = List ℕ} (λ (x : ℕ). x ∷ []) (back 4 (omega arith))))))
five_read (a ∷ b ∷ c ∷ d ∷ e ∷ f ∷ v) z l h = absurd (omega arith)

-- whatever stands behind them
numbers_read : (a : Answer) (z : List ℕ) → all (λ (x : ℕ). ltb x 65536) (numbers_of a) ≡ true → numbers_in (header a ++ z) ≡ numbers_of a
numbers_read a z h = ap numbers_in (append_assoc (flatten (map two_bytes (numbers_of a))) (replicate (head_bytes - 10) 0) z) ∙ five_read (numbers_of a) _ (numbers_five a) h

-- ---- the strips

-- the start of a strip
unpadded : (k : ℕ) (x rest : List ℕ) → length x ≡ k → take k (padded x ++ rest) ≡ x
unpadded k x rest l = ap (take k) (append_assoc x _ rest) ∙ take_at x _ k l

-- a header h and three strips behind it, k places of each in use
module _ (k : ℕ) (h x y z : List ℕ) (lh : length h ≡ head_bytes) (lx : length x ≡ k) (ly : length y ≡ k) (lz : length z ≡ k) (low : k ≤ strip_width) where
  abbrev laid : List ℕ
  laid = h ++ padded x ++ padded y ++ padded z

  wide : (t : List ℕ) → length t ≡ k → length (padded t) ≡ strip_width
  wide t l = padded-long t (omega arith)

  first_off : take k (drop (head_bytes + 0 * strip_width) laid) ≡ x
  first_off =
      let e : laid ≡ h ++ (padded x ++ (padded y ++ padded z)) = append_assoc (h ++ padded x) (padded y) (padded z) ∙ append_assoc h (padded x) (padded y ++ padded z) in
      ap (λ (l : List ℕ). take k (drop (head_bytes + 0 * strip_width) l)) e ∙ ap (take k) (drop_at h _ (head_bytes + 0 * strip_width) (omega arith)) ∙ unpadded k x _ lx

  second_off : take k (drop (head_bytes + 1 * strip_width) laid) ≡ y
  second_off =
      let l : length (h ++ padded x) ≡ head_bytes + 1 * strip_width = length-append h (padded x) ∙ omega (arith, lh, wide x lx) in
      ap (λ (l : List ℕ). take k (drop (head_bytes + 1 * strip_width) l)) (append_assoc (h ++ padded x) (padded y) (padded z)) ∙ ap (take k) (drop_at (h ++ padded x) _ (head_bytes + 1 * strip_width) l) ∙ unpadded k y _ ly

  third_off : take k (drop (head_bytes + 2 * strip_width) laid) ≡ z
  third_off =
      let l₁ : length (h ++ padded x) ≡ head_bytes + 1 * strip_width = length-append h (padded x) ∙ omega (arith, lh, wide x lx) in
      let l : length (h ++ padded x ++ padded y) ≡ head_bytes + 2 * strip_width = length-append (h ++ padded x) (padded y) ∙ omega (arith, l₁, wide y ly) in
      ap (take k) (drop_at (h ++ padded x ++ padded y) (padded z) (head_bytes + 2 * strip_width) l) ∙ take_at z _ k lz

-- three parts of k bytes
joined : (k : ℕ) (b : List ℕ) → take k b ++ (take k (drop k b) ++ (drop (2 * k) b ++ [])) ≡ b
joined k b =
    let two : k + k ≡ 2 * k = omega arith in
    let e : drop k (drop k b) ≡ drop (2 * k) b = drop-drop k k b ∙ ap (λ (i : ℕ). drop i b) two in
    ap (λ (t : List ℕ). take k b ++ (take k (drop k b) ++ t)) (append-nil (drop (2 * k) b) ∙ sym e)
    ∙ ap (λ (t : List ℕ). take k b ++ t) (take-append-drop k (drop k b)) ∙ take-append-drop k b

-- ---- the record of a word

module _ (n : ℕ) (s : List ℕ) (r c : ℕ) (w : List ℕ) (h : n ≤ largest_n) where
  abbrev found : List ℕ
  found = replicate (3 * 2 ^ n) 255

  abbrev reply : Reply
  reply = decoding n s r c w found

  pub numbers_off : numbers_in (answer_record n s r c w) ≡ numbers_of reply.answer
  unfolding answer_record small
  numbers_off =
      let b : List ℕ = reply.bytes in
      let x : List ℕ = padded (take (2 ^ n) b) in
      let y : List ℕ = padded (take (2 ^ n) (drop (2 ^ n) b)) in
      let z : List ℕ = padded (drop (2 * 2 ^ n) b) in
      ap numbers_in (append_assoc (header reply.answer ++ x) y z ∙ append_assoc (header reply.answer) x (y ++ z))
      ∙ numbers_read reply.answer (x ++ (y ++ z)) (answered_small n s r c w found b reply.answer refl h)

  pub strips_off : strips_in n (answer_record n s r c w) ≡ reply.bytes
  unfolding answer_record strips_in flatten
  strips_off =
      let b : List ℕ = reply.bytes in
      let k : ℕ = 2 ^ n in
      let x : List ℕ = take k b in
      let y : List ℕ = take k (drop k b) in
      let z : List ℕ = drop (2 * k) b in
      let lb : length b ≡ 3 * k = answered_long n s r c w found b reply.answer refl refl in
      let lx : length x ≡ k = length-take-le k b (omega arith) in
      let ly : length y ≡ k = length-take-le k (drop k b) (omega (arith, length-drop k b)) in
      let lz : length z ≡ k = length-drop (2 * k) b ∙ omega arith in
      let low : k ≤ strip_width = word_fits n k h refl in
      let lh : length (header reply.answer) ≡ head_bytes = header-long reply.answer in
      ap₂ {C = List ℕ} (λ (p q : List ℕ). p ++ q) (first_off k (header reply.answer) x y z lh lx ly lz low)
      (ap₂ {C = List ℕ} (λ (p q : List ℕ). p ++ q) (second_off k (header reply.answer) x y z lh lx ly lz low)
      (ap (λ (p : List ℕ). p ++ []) (third_off k (header reply.answer) x y z lh lx ly lz low)))
      ∙ joined k b
