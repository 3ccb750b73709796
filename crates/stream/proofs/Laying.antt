-- A record in the parts that the code writes.
--     drop_blank, take_blank     blank bytes past the first, and the first
--     laid_one .. laid-all       the strips, one after the other
--     put_whole                  a record: its numbers, then its strips
--     answered, recorded         the record of what decoding answers
use mathlib.Core.Path.{◌≡◌, refl, sym, ap, ap₂, subst, ◌∙◌}
use Prim.Native.Nat.{ℕ, zero, suc, ◌+◌, ◌-◌, ◌*◌, ◌^◌, ◌≤◌}
use native.Mathlib.Omega.{arith}
use lib.Pow.{pow_mono}
use mathlib.Core.List.{List, [], ◌∷◌, ◌++◌, append_assoc, append-nil}
use lib.ListN.{length, take, drop, replicate, length-append, length-take, length-drop, length-replicate}
use lib.Seq.{take_all, drop_at, take-length}
use borrow.Rule.Slice.PartMut.{put_mid, post_of}
use Rattle.bits.proofs.Copied.{copied_whole}
use Rattle.bits.proofs.RowsWritten.{put-behind}
use Rattle.meaning.specs.Limits.{largest_n, strip_width}
use Rattle.meaning.specs.Answers.{Reply, leaving, decoding}
use Rattle.meaning.specs.Stream.{header, padded, answer_record}
use Rattle.meaning.specs.declared.Answer.{Answer}
use Rattle.stream.specs.Laying.{Small, laid}
use Rattle.stream.proofs.Fitting.{fits-two-bytes, keeps-length}

-- ---- parts put one behind the other

pub drop_blank : (a b : ℕ) → drop {A = ℕ} a (replicate b 255) ≡ replicate (b - a) 255
drop_blank zero b = ap {B = List ℕ} (λ (k : ℕ). replicate k 255) (let e : b ≡ b - 0 = omega arith in e)
drop_blank (suc a) zero = ap {B = List ℕ} (λ (k : ℕ). replicate k 255) (let e : 0 ≡ 0 - suc a = omega arith in e)
drop_blank (suc a) (suc b) = drop_blank a b ∙ ap {B = List ℕ} (λ (k : ℕ). replicate k 255) (let e : b - a ≡ suc b - suc a = omega arith in e)

pub take_blank : (a b : ℕ) → a ≤ b → take {A = ℕ} a (replicate b 255) ≡ replicate a 255
take_blank zero b h = refl
take_blank (suc a) zero h = absurd (omega arith)
take_blank (suc a) (suc b) h = ap {B = List ℕ} (λ t. 255 ∷ t) (take_blank a b (omega arith))

-- the start of three blank strips
pub part_blank : (k size : ℕ) (f : List ℕ) → f ≡ replicate (3 * strip_width) 255 → size ≤ strip_width → size ≡ k → take (3 * size) f ≡ replicate (3 * k) 255
part_blank k size f e low q = ap₂ {C = List ℕ} take (let m : 3 * size ≡ 3 * k = omega arith in m) e ∙ take_blank (3 * k) (3 * strip_width) (omega arith)

-- ---- the strips. x, y, z have their W places

module _ (W : ℕ) (x y z : List ℕ) (lx : length x ≡ W) (ly : length y ≡ W) (lz : length z ≡ W) where
  pub laid_one : x ++ post_of 0 (W - 0) (replicate (3 * W) 255) ≡ x ++ replicate (2 * W) 255
  laid_one = let e : 3 * W - (W - 0) ≡ 2 * W = omega arith in ap (λ (t : List ℕ). x ++ t) (drop_blank (W - 0) (3 * W) ∙ ap (λ (k : ℕ). replicate k 255) e)

  pub part-two : take (2 * W - W) (drop W (x ++ replicate (2 * W) 255)) ≡ replicate W 255
  part-two =
      let e : 2 * W - W ≡ W = omega arith in
      ap₂ {C = List ℕ} take e (drop_at x (replicate (2 * W) 255) W lx) ∙ take_blank W (2 * W) (omega arith)

  pub laid-two : put_mid W (2 * W - W) (x ++ replicate (2 * W) 255) y ≡ (x ++ y) ++ replicate W 255
  laid-two =
      let e : 2 * W - (2 * W - W) ≡ W = omega arith in
      put-behind x (replicate (2 * W) 255) y W (2 * W - W) lx ∙ ap (λ (t : List ℕ). x ++ (y ++ t)) (drop_blank (2 * W - W) (2 * W) ∙ ap (λ (k : ℕ). replicate k 255) e)
      ∙ sym (append_assoc x y (replicate W 255))

  two-long : length (x ++ y) ≡ 2 * W
  two-long = length-append x y ∙ omega arith

  pub part-three : take (3 * W - 2 * W) (drop (2 * W) ((x ++ y) ++ replicate W 255)) ≡ replicate W 255
  part-three =
      let e : 3 * W - 2 * W ≡ W = omega arith in
      ap₂ {C = List ℕ} take e (drop_at (x ++ y) (replicate W 255) (2 * W) two-long) ∙ take_blank W W (omega arith)

  pub laid-all : put_mid (2 * W) (3 * W - 2 * W) ((x ++ y) ++ replicate W 255) z ≡ x ++ y ++ z
  laid-all =
      let e : W - (3 * W - 2 * W) ≡ 0 = omega arith in
      put-behind (x ++ y) (replicate W 255) z (2 * W) (3 * W - 2 * W) two-long
      ∙ ap (λ (t : List ℕ). (x ++ y) ++ t) (ap (λ (t : List ℕ). z ++ t) (drop_blank (3 * W - 2 * W) W ∙ ap (λ (k : ℕ). replicate k 255) e) ∙ append-nil z)

-- d with s copied to its start, as far as it has room
abbrev pub over : List ℕ → List ℕ → List ℕ
over s d = take (length d) s ++ drop (length s) d

-- a strip: what is copied into blank bytes
pub strip-is : (src dst x : List ℕ) → length src ≤ strip_width → dst ≡ replicate strip_width 255 → x ≡ over src dst → x ≡ padded src
strip-is src dst x h d e =
    let room : length src ≤ length dst = omega (arith, ap length d, length-replicate {A = ℕ} strip_width 255) in
    copied_whole src dst x room e ∙ ap₂ {C = List ℕ} ◌++◌ (take-length src) (ap (drop (length src)) d ∙ drop_blank (length src) strip_width)

pub padded-long : (l : List ℕ) → length l ≤ strip_width → length (padded l) ≡ strip_width
padded-long l h = length-append l _ ∙ ap (λ (k : ℕ). length l + k) (length-replicate (strip_width - length l) 255) ∙ omega arith

module _ (size : ℕ) (b S : List ℕ) (lb : length b ≡ 3 * size) (low : size ≤ strip_width) (eS : S ≡ replicate (3 * strip_width) 255) where
  abbrev W : ℕ
  W = strip_width

  pub blank_long : length S ≡ 3 * W
  blank_long = ap length eS ∙ length-replicate (3 * W) 255

  pub laid-is : (x y z : List ℕ) → x ≡ over (take (size - 0) (drop 0 b)) (take (W - 0) (drop 0 S)) → y ≡ over (take (2 * size - size) (drop size b)) (take (2 * W - W) (drop W (x ++ post_of 0 (W - 0) S)))
      → z ≡ over (take (3 * size - 2 * size) (drop (2 * size) b)) (take (3 * W - 2 * W) (drop (2 * W) (put_mid W (2 * W - W) (x ++ post_of 0 (W - 0) S) y)))
      → put_mid (2 * W) (3 * W - 2 * W) (put_mid W (2 * W - W) (x ++ post_of 0 (W - 0) S) y) z ≡ laid size b
  unfolding laid
  laid-is x y z ex ey ez =
      let s₁ : take (size - 0) (drop 0 b) ≡ take size b = ap (λ (k : ℕ). take k b) (let e : size - 0 ≡ size = omega arith in e) in
      let s₂ : take (2 * size - size) (drop size b) ≡ take size (drop size b) = ap (λ (k : ℕ). take k (drop size b)) (let e : 2 * size - size ≡ size = omega arith in e) in
      let s₃ : take (3 * size - 2 * size) (drop (2 * size) b) ≡ drop (2 * size) b = take_all (3 * size - 2 * size) (drop (2 * size) b) (simp length-drop (omega arith)) in
      let l₁ : length (take size b) ≤ W = simp length-take (omega arith) in
      let l₂ : length (take size (drop size b)) ≤ W = simp length-take (omega arith) in
      let l₃ : length (drop (2 * size) b) ≤ W = simp length-drop (omega arith) in
      let d₁ : take (W - 0) (drop 0 S) ≡ replicate W 255 = ap (take (W - 0)) eS ∙ ap (λ (k : ℕ). take k (replicate (3 * W) 255)) (let e : W - 0 ≡ W = omega arith in e) ∙ take_blank W (3 * W) (omega arith) in
      let x' : x ≡ padded (take size b) = strip-is (take (size - 0) (drop 0 b)) _ x (omega (arith, ap length s₁, l₁)) d₁ ex ∙ ap padded s₁ in
      let lx : length x ≡ W = ap length x' ∙ padded-long (take size b) l₁ in
      let one : x ++ post_of 0 (W - 0) S ≡ x ++ replicate (2 * W) 255 = ap (λ (t : List ℕ). x ++ post_of 0 (W - 0) t) eS ∙ laid_one W x x x lx lx lx in
      let d₂ : take (2 * W - W) (drop W (x ++ post_of 0 (W - 0) S)) ≡ replicate W 255 = ap (λ (t : List ℕ). take (2 * W - W) (drop W t)) one ∙ part-two W x x x lx lx lx in
      let y' : y ≡ padded (take size (drop size b)) = strip-is (take (2 * size - size) (drop size b)) _ y (omega (arith, ap length s₂, l₂)) d₂ ey ∙ ap padded s₂ in
      let ly : length y ≡ W = ap length y' ∙ padded-long (take size (drop size b)) l₂ in
      let two : put_mid W (2 * W - W) (x ++ post_of 0 (W - 0) S) y ≡ (x ++ y) ++ replicate W 255 = ap (λ (t : List ℕ). put_mid W (2 * W - W) t y) one ∙ laid-two W x y y lx ly ly in
      let d₃ : take (3 * W - 2 * W) (drop (2 * W) (put_mid W (2 * W - W) (x ++ post_of 0 (W - 0) S) y)) ≡ replicate W 255 = ap (λ (t : List ℕ). take (3 * W - 2 * W) (drop (2 * W) t)) two ∙ part-three W x y y lx ly ly in
      let z' : z ≡ padded (drop (2 * size) b) = strip-is (take (3 * size - 2 * size) (drop (2 * size) b)) _ z (omega (arith, ap length s₃, l₃)) d₃ ez ∙ ap padded s₃ in
      let lz : length z ≡ W = ap length z' ∙ padded-long (drop (2 * size) b) l₃ in
      ap (λ (t : List ℕ). put_mid (2 * W) (3 * W - 2 * W) t z) two ∙ laid-all W x y z lx ly lz ∙ ap₂ {C = List ℕ} ◌++◌ (ap₂ {C = List ℕ} ◌++◌ x' y') z'

pub laid-long : (size : ℕ) (b : List ℕ) → length b ≡ 3 * size → size ≤ strip_width → length (laid size b) ≡ 3 * strip_width
unfolding laid
laid-long size b lb low =
    let l₁ = padded-long (take size b) (simp length-take (omega arith)) in
    let l₂ = padded-long (take size (drop size b)) (simp length-take (omega arith)) in
    let l₃ = padded-long (drop (2 * size) b) (simp length-drop (omega arith)) in
    length-append (padded (take size b) ++ padded (take size (drop size b))) (padded (drop (2 * size) b))
    ∙ ap₂ ◌+◌ (length-append (padded (take size b)) (padded (take size (drop size b))) ∙ ap₂ ◌+◌ l₁ l₂) l₃ ∙ omega arith

-- ---- a record

-- a word is no wider than a strip
pub word_fits : (n size : ℕ) → n ≤ largest_n → size ≡ 2 ^ n → size ≤ strip_width
unfolding largest_n strip_width
word_fits n size h e = omega (arith, pow_mono h)

pub put-room : (s o : List ℕ) (k : ℕ) → length o ≡ k + length s → length s ≤ length (take (length o - k) (drop k o))
put-room s o k e = simp (length-take, length-drop) (omega arith)

pub put_whole : (h s o x : List ℕ) (k : ℕ) → length h ≡ k → length o ≡ k + length s → (o₁ : List ℕ) → o₁ ≡ take (length h) h ++ drop (length h) o
    → x ≡ take (length s) s ++ drop (length s) (take (length o₁ - k) (drop k o₁)) → put_mid k (length o₁ - k) o₁ x ≡ h ++ s
put_whole h s o x k lh lo o₁ eo ex =
    let c : o₁ ≡ h ++ drop k o = eo ∙ ap₂ {C = List ℕ} (λ t j. t ++ drop j o) (take-length h) lh in
    let l : length o₁ ≡ k + length s = ap length c ∙ length-append h (drop k o) ∙ ap₂ ◌+◌ lh (length-drop k o ∙ omega arith) in
    let d : drop k o₁ ≡ drop k o = ap (drop k) c ∙ drop_at h (drop k o) k lh in
    let m : length o₁ - k ≡ length s = omega arith in
    let n : length (take (length o₁ - k) (drop k o₁)) ≤ length s = omega (arith, length-take (length o₁ - k) (drop k o₁)) in
    let x' : x ≡ s = ex ∙ ap₂ {C = List ℕ} ◌++◌ (take-length s) (drop_past (length s) (take (length o₁ - k) (drop k o₁)) n) ∙ append-nil s in
    let p : drop (length o₁ - k) (drop k o) ≡ [] = drop_past (length o₁ - k) (drop k o) (omega (arith, length-drop k o)) in
    ap (λ (t : List ℕ). put_mid k (length o₁ - k) t x) c ∙ put-behind h (drop k o) x k (length o₁ - k) lh
    ∙ ap (λ (t : List ℕ). h ++ (x ++ t)) p ∙ ap (λ (t : List ℕ). h ++ t) (append-nil x ∙ x')
  where
    drop_past : (i : ℕ) (l : List ℕ) → length l ≤ i → drop i l ≡ []
    drop_past zero [] q = refl
    drop_past zero (a ∷ l) q = absurd (omega arith)
    drop_past (suc i) [] q = refl
    drop_past (suc i) (a ∷ l) q = drop_past i l (omega arith)

module _ (n : ℕ) (s : List ℕ) (r c : ℕ) (w f b : List ℕ) (a : Answer) (p : leaving b a ≡ decoding n s r c w f) where
  pub answered_small : n ≤ largest_n → Small a
  answered_small h = subst (λ (t : Reply). Small t.answer) (sym p) (fits-two-bytes n h s r c w f)

  pub answered_long : f ≡ replicate (3 * 2 ^ n) 255 → length b ≡ 3 * 2 ^ n
  answered_long e = ap (λ (t : Reply). length t.bytes) p ∙ keeps-length n s r c w f ∙ ap length e ∙ length-replicate (3 * 2 ^ n) 255

  pub recorded : f ≡ replicate (3 * 2 ^ n) 255 → (k : ℕ) → k ≡ 2 ^ n → header a ++ laid k b ≡ answer_record n s r c w
  unfolding laid answer_record
  recorded e k ek =
      let p₁ : List ℕ = padded (take (2 ^ n) b) in
      let p₂ : List ℕ = padded (take (2 ^ n) (drop (2 ^ n) b)) in
      let p₃ : List ℕ = padded (drop (2 * 2 ^ n) b) in
      let q : leaving b a ≡ decoding n s r c w (replicate (3 * 2 ^ n) 255) = p ∙ ap (decoding n s r c w) e in
      ap (λ (j : ℕ). header a ++ laid j b) ek ∙ sym (append_assoc (header a) (p₁ ++ p₂) p₃) ∙ ap (λ (t : List ℕ). t ++ p₃) (sym (append_assoc (header a) p₁ p₂))
      ∙ ap (λ (t : Reply). header t.answer ++ padded (take (2 ^ n) t.bytes) ++ padded (take (2 ^ n) (drop (2 ^ n) t.bytes)) ++ padded (drop (2 * 2 ^ n) t.bytes)) q
