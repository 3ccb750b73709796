-- An input cut into pieces of L bytes.
--     none_sized, ceil_rounded, rounded_few         how many there are
--     begins                                                                where a piece starts
--     ends_nowhere, ends_last, ends-within, ends-first, end_room            where it ends
--     piece_is                        piece i, as code cuts it out
--     piece_front, piece_back, count_cut, count-whole     an input in two parts, the first of whole pieces
--     WholePieces                     parts of whole pieces
--     pieces_cut, pieces_all          what stands for each piece of the whole input stands for those of its parts, one after the other
--     cut_list, cut_flat              the same of a list for each input, and of its bytes
use mathlib.Core.Path.{◌≡◌, refl, sym, ap, ap₂, ◌∙◌}
use mathlib.Core.Logic.{◌⊎◌, inl, inr}
use Prim.Native.Nat.{ℕ, suc, min, ◌+◌, ◌-◌, ◌*◌, ◌/◌, ◌%◌, ◌≤◌, ◌<◌}
use native.Mathlib.Omega.{arith}
use native.Mathlib.Nat.{div-zero, div-eq_of_lt, le-div_iff_mul-le, div-lt_iff_lt-mul, mul-add-div_right, add-zero, add-mul, div-add-mod'}
use mathlib.Core.List.{List, [], ◌∷◌, ◌++◌, map, flatten, append_assoc}
use lib.ListN.{length, take, drop, length-append, length-drop}
use lib.Seq.{take_all, take-append-le, drop-append-le, drop-append-add}
use Rattle.std.specs.Int.{div_ceil}
use Rattle.std.proofs.lemmas.Grind.{div_ceil_times}
use Rattle.bits.specs.Vectors.{tab}
use Rattle.bits.proofs.Tests.{tab_append, tab_below, le_or_lt}
use Rattle.bits.proofs.RowLaws.{row_fit}
use Rattle.bits.proofs.Records.{flatten_append, flatten_each}
use Rattle.meaning.specs.Stream.{rounded_up, piece_at, piece_end}

-- ---- how many there are

pub none_sized : (a b : ℕ) → b ≡ 0 → 0 ≡ rounded_up a b
unfolding rounded_up
none_sized a b e = rw e (sym (div-zero (a + (0 - 1))))

module _ (a b : ℕ) where
  pub ceil_rounded : (b ≡ 0 → ⊥) → div_ceil a b ≡ rounded_up a b
  unfolding rounded_up
  ceil_rounded h =
      let p : 0 < b = omega arith in
      let t = div_ceil_times a b p in
      let low : div_ceil a b ≤ (a + (b - 1)) / b = (le-div_iff_mul-le p).1 (omega (arith, t.1)) in
      let high : (a + (b - 1)) / b < suc (div_ceil a b) =
      (div-lt_iff_lt-mul p).1 (omega (arith, t.0, (let e : suc (div_ceil a b) * b ≡ div_ceil a b * b + b = omega arith in e)))
      in
      omega arith

-- piece i of k starts within the input
pub begins : (len L size i k : ℕ) → 0 < L → size ≡ L → k ≡ rounded_up len L → i < k → i * size < len
unfolding rounded_up
begins len L size i k p e ek l =
    let q : suc i * L ≤ len + (L - 1) = (le-div_iff_mul-le p).0 (rw ek at l) in
    rw e (omega (arith, q))

-- no more pieces than would be whole
pub rounded_few : (a b k : ℕ) → 0 < b → a ≤ k * b → rounded_up a b ≤ k
unfolding rounded_up
rounded_few a b k p l =
    let q : a + (b - 1) < suc k * b = omega (arith, (let e : suc k * b ≡ k * b + b = omega arith in e)) in
    let r : (a + (b - 1)) / b < suc k = (div-lt_iff_lt-mul p).1 q in
    omega arith

-- ---- where they end

module _ (L len i : ℕ) where
  pub ends_nowhere : L ≡ 0 → 0 ≡ piece_end L len i
  unfolding piece_end
  ends_nowhere e = rw e (omega arith)

  pub ends_last : (L ≡ 0 → ⊥) → len / L ≤ i → len ≡ piece_end L len i
  unfolding piece_end
  ends_last e h =
      let p : 0 < L = omega arith in
      let q : len < suc i * L = (div-lt_iff_lt-mul p).0 (omega arith) in
      omega (arith, q)

  pub ends-within : (L ≡ 0 → ⊥) → i < len / L → (i + 1) * L ≤ len
  ends-within e h =
      let p : 0 < L = omega arith in
      let q : suc i * L ≤ len = (le-div_iff_mul-le p).0 h in
      omega (arith, q)

  pub ends-first : (L ≡ 0 → ⊥) → i < len / L → (i + 1) * L ≡ piece_end L len i
  unfolding piece_end
  ends-first e h = omega (arith, ends-within e h)

-- within the input, and not before its start
pub end_room : (L len i e : ℕ) → e ≡ piece_end L len i → i * L ≤ len → (i * L ≤ e) × (e ≤ len)
unfolding piece_end
end_room L len i e q h = (omega arith, omega arith)

take_min : (k : ℕ) (l : List ℕ) → take (min k (length l)) l ≡ take k l
take_min k l = go (le_or_lt k (length l))
  where
    go : (k ≤ length l) ⊎ (length l < k) → take (min k (length l)) l ≡ take k l
    go (inl h) = ap (λ (j : ℕ). take j l) (let e : min k (length l) ≡ k = omega arith in e)
    go (inr h) = ap (λ (j : ℕ). take j l) (let e : min k (length l) ≡ length l = omega arith in e) ∙ take_all (length l) l (omega arith) ∙ sym (take_all k l (omega arith))

pub piece_is : (L : ℕ) (input : List ℕ) (i e : ℕ) → e ≡ piece_end L (length input) i → take (e - i * L) (drop (i * L) input) ≡ piece_at L input i
unfolding piece_at piece_end
piece_is L input i e q =
    let m : e - i * L ≡ min L (length input - i * L) = omega arith in
    ap (λ (k : ℕ). take k (drop (i * L) input)) (m ∙ ap (min L) (sym (length-drop (i * L) input))) ∙ take_min L (drop (i * L) input)

-- ---- an input in two parts, the first of m whole pieces

module _ (L : ℕ) (p : 0 < L) (a b : List ℕ) (m : ℕ) (la : length a ≡ m * L) where
  pub piece_front : (i : ℕ) → i < m → piece_at L (a ++ b) i ≡ piece_at L a i
  unfolding piece_at
  piece_front i h =
      let l : i * L + L ≤ length a = omega (arith, la, row_fit i m L h) in
      ap (take L) (drop-append-le (i * L) a b (omega arith)) ∙ take-append-le L (drop (i * L) a) b (simp length-drop (omega arith))

  pub piece_back : (i : ℕ) → piece_at L (a ++ b) (m + i) ≡ piece_at L b i
  unfolding piece_at
  piece_back i =
      let e : (m + i) * L ≡ length a + i * L = omega (arith, la, (let q : (m + i) * L ≡ m * L + i * L = add-mul m i L in q)) in
      ap (λ (k : ℕ). take L (drop k (a ++ b))) e ∙ ap (take L) (drop-append-add a b (i * L))

  pub count_cut : rounded_up (length (a ++ b)) L ≡ m + rounded_up (length b) L
  unfolding rounded_up
  count_cut =
      let e : length (a ++ b) + (L - 1) ≡ m * L + (length b + (L - 1)) = ap (λ (k : ℕ). k + (L - 1)) (length-append a b) ∙ omega (arith, la) in
      ap (λ (k : ℕ). k / L) e ∙ mul-add-div_right p m (length b + (L - 1))

  pub count-whole : rounded_up (length a) L ≡ m
  unfolding rounded_up
  count-whole =
      let l : L - 1 < L = omega arith in
      ap (λ (k : ℕ). (k + (L - 1)) / L) la ∙ mul-add-div_right p m (L - 1) ∙ ap (λ (k : ℕ). m + k) (div-eq_of_lt l) ∙ add-zero m

  pub pieces_cut : {A : Type 0} (f : List ℕ → A)
      → tab (rounded_up (length (a ++ b)) L) (λ (k : ℕ). f (piece_at L (a ++ b) k)) ≡ tab (rounded_up (length a) L) (λ (k : ℕ). f (piece_at L a k)) ++ tab (rounded_up (length b) L) (λ (k : ℕ). f (piece_at L b k))
  pieces_cut {A} f =
      let g : List ℕ → ℕ → A = λ c k. f (piece_at L c k) in
      let kb : ℕ = rounded_up (length b) L in
      ap (λ (k : ℕ). tab k (g (a ++ b))) count_cut ∙ tab_append m kb (g (a ++ b))
      ∙ ap₂ {C = List A} ◌++◌ (tab_below m (g (a ++ b)) (g a) (λ i l. ap f (piece_front i l)) ∙ ap (λ (k : ℕ). tab k (g a)) (sym count-whole)) (tab_below kb (λ (i : ℕ). g (a ++ b) (m + i)) (g b) (λ i l. ap f (piece_back i)))

-- ---- any number of parts

-- each part is a whole number of pieces of L bytes
abbrev pub WholePieces : ℕ → List (List ℕ) → Type 0
WholePieces L [] = Unit {0}
WholePieces L (a ∷ parts) = (length a % L ≡ 0) × WholePieces L parts

module _ {A : Type 0} (L : ℕ) (p : 0 < L) (f : List ℕ → A) where
  -- what stands for each piece of an input
  abbrev pub each_piece : List ℕ → List A
  each_piece input = tab (rounded_up (length input) L) (λ (k : ℕ). f (piece_at L input k))

  pub pieces_all : (parts : List (List ℕ)) (last : List ℕ) → WholePieces L parts → each_piece (flatten parts ++ last) ≡ flatten (map each_piece parts) ++ each_piece last
  unfolding flatten
  pieces_all [] last w = refl
  pieces_all (a ∷ parts) last w =
      let m : length a ≡ length a / L * L = omega (arith, div-add-mod' (length a) L, w.0) in
      ap each_piece (append_assoc a (flatten parts) last) ∙ pieces_cut L p a (flatten parts ++ last) (length a / L) m f
      ∙ ap (λ (t : List A). each_piece a ++ t) (pieces_all parts last w.1) ∙ sym (append_assoc (each_piece a) _ _)

-- g gives the list for an input
module _ (L : ℕ) (p : 0 < L) (f : List ℕ → List ℕ) (g : List ℕ → List (List ℕ)) (e : (input : List ℕ) → g input ≡ each_piece L p f input) where
  pub cut_list : (parts : List (List ℕ)) (last : List ℕ) → WholePieces L parts → g (flatten parts ++ last) ≡ flatten (map g parts) ++ g last
  unfolding flatten
  cut_list parts last w = e (flatten parts ++ last) ∙ pieces_all L p f parts last w ∙ ap₂ {C = List (List ℕ)} ◌++◌ (each parts) (sym (e last))
    where
      each : (parts : List (List ℕ)) → flatten (map (each_piece L p f) parts) ≡ flatten (map g parts)
      each [] = refl
      each (a ∷ parts) = ap₂ {C = List (List ℕ)} ◌++◌ (sym (e a)) (each parts)

  pub cut_flat : (parts : List (List ℕ)) (last : List ℕ) → WholePieces L parts → flatten (g (flatten parts ++ last)) ≡ flatten (map (λ (a : List ℕ). flatten (g a)) parts) ++ flatten (g last)
  cut_flat parts last w =
      ap flatten (cut_list parts last w) ∙ flatten_append (flatten (map g parts)) (g last) ∙ ap (λ (t : List ℕ). t ++ flatten (g last)) (flatten_each g parts)
