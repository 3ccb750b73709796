-- A loop over the pieces of an input, L bytes each: what is known when k pieces are taken, `rest` is left, and pieces of `size` are cut.
--     Turn                  what is known
--     turn_more, turn_piece, turn_next     where something is left: piece k is taken
--     turn_end              where nothing is left: all pieces are taken
--     Taken, taken_none, Next, taken_next, taken_all     the same over the iterator of the pieces and their numbers
use mathlib.Core.Path.{◌≡◌, refl, sym, ap, ◌∙◌}
use mathlib.Core.Logic.{◌⊎◌, inl, inr}
use Prim.Native.Nat.{ℕ, suc, min, ◌+◌, ◌-◌, ◌*◌, ◌≤◌, ◌<◌}
use native.Mathlib.Omega.{arith}
use native.Mathlib.Nat.{le-div_iff_mul-le}
use mathlib.Core.List.{List, ◌++◌}
use lib.ListN.{length, take, drop, length-drop, drop_of_length-le}
use lib.Seq.{take_at, drop_at, take_all, drop-drop}
use denote.Ref.{Bor}
use Rattle.std.specs.Prelude.{Some, None}
use Rattle.std.specs.declared.iter.Enumerate.{Enumerate}
use Rattle.std.specs.declared.slice.Chunks.{Chunks}
use Rattle.std.specs.Iterator.Adapters.{enumerate_source, enumerate_count, enumerate_steps}
use Rattle.std.specs.Slice.Iter.{chunks_rest, chunks_size, chunks_steps}
use Rattle.bits.proofs.Tests.{le_or_lt}
use Rattle.bits.proofs.RowLaws.{row_fit}
use Rattle.meaning.specs.Stream.{rounded_up, piece_at}
use Rattle.meaning.proofs.Cutting.{rounded_few}

module _ (L : ℕ) (input : List ℕ) where
  pub record Turn (rest : List ℕ) (size k : ℕ) : Type 0 where
    pub sized : size ≡ L
    pub left : rest ≡ drop (k * L) input
    pub few : k ≤ rounded_up (length input) L

  module _ (p : 0 < L) (rest : List ℕ) (size k : ℕ) (t : Turn rest size k) where
    rest_long : length rest ≡ length input - k * L
    rest_long = ap length t.left ∙ length-drop (k * L) input

    pub turn_more : 0 < length rest → k < rounded_up (length input) L
    unfolding rounded_up
    turn_more h = (le-div_iff_mul-le p).1 (omega (arith, rest_long, (let e : suc k * L ≡ k * L + L = omega arith in e)))

    pub turn_end : length rest ≡ 0 → k ≡ rounded_up (length input) L
    turn_end h = omega (arith, t.few, rounded_few (length input) L k p (omega (arith, rest_long)))

    module _ (w rest' : List ℕ) (e : rest ≡ w ++ rest') (l : length w ≡ min size (length rest)) where
      pub turn_piece : w ≡ piece_at L input k
      unfolding piece_at
      turn_piece = go (le_or_lt L (length rest)) ∙ ap (take L) t.left
        where
          cut : take (length w) rest ≡ w
          cut = ap (take (length w)) e ∙ take_at w rest' (length w) refl

          go : (L ≤ length rest) ⊎ (length rest < L) → w ≡ take L rest
          go (inl h) = sym cut ∙ ap (λ (j : ℕ). take j rest) (omega (arith, l, t.sized))
          go (inr h) = sym cut ∙ take_all (length w) rest (omega (arith, l, t.sized)) ∙ sym (take_all L rest (omega arith))

      behind : rest' ≡ drop ((k + 1) * L) input
      behind = go (le_or_lt L (length rest))
        where
          cut : drop (length w) rest ≡ rest'
          cut = ap (drop (length w)) e ∙ drop_at w rest' (length w) refl

          go : (L ≤ length rest) ⊎ (length rest < L) → rest' ≡ drop ((k + 1) * L) input
          go (inl h) =
              let m : length w ≡ L = omega (arith, l, t.sized) in
              let j : k * L + L ≡ (k + 1) * L = omega arith in
              sym cut ∙ ap (λ (i : ℕ). drop i rest) m ∙ ap (drop L) t.left ∙ drop-drop L (k * L) input ∙ ap (λ (i : ℕ). drop i input) j
          go (inr h) =
              let m : length rest ≤ length w = omega (arith, l, t.sized) in
              let j : length input ≤ (k + 1) * L = omega (arith, rest_long, (let q : (k + 1) * L ≡ k * L + L = omega arith in q)) in
              sym cut ∙ drop_of_length-le rest {i = length w} m ∙ sym (drop_of_length-le input {i = (k + 1) * L} j)

      pub turn_next : (size' : ℕ) → size' ≡ size → 0 < length rest → Turn rest' size' (k + 1)
      turn_next size' es h = record { sized = es ∙ t.sized; left = behind; few = omega (arith, turn_more h) }

-- ---- over the iterator of a slice's pieces and their numbers

module _ (L : ℕ) (input : List ℕ) where
  abbrev pub Taken : Enumerate (Chunks ℕ) → Type 0
  Taken it = Turn L input (chunks_rest (enumerate_source it)) (chunks_size (enumerate_source it)) (enumerate_count it)

  pub taken_none : (it : Enumerate (Chunks ℕ)) (cs : Chunks ℕ) → chunks_rest cs ≡ input → chunks_size cs ≡ L → enumerate_source it ≡ cs → enumerate_count it ≡ 0 → Taken it
  taken_none it cs er es e z = record {
    sized = ap chunks_size e ∙ es;
    left = ap chunks_rest e ∙ er ∙ ap (λ (k : ℕ). drop k input) (let q : 0 ≡ enumerate_count it * L = rw z (omega arith) in q);
    few = rw z (omega arith);
  }

  -- piece i is taken
  pub record Next (it it' : Enumerate (Chunks ℕ)) (i : ℕ) (w : List ℕ) : Type 0 where
    pub at : enumerate_count it ≡ i
    pub more : i < rounded_up (length input) L
    pub piece : w ≡ piece_at L input i
    pub up : enumerate_count it' ≡ i + 1
    pub taken : Taken it'

  module _ (p : 0 < L) (it it' : Enumerate (Chunks ℕ)) (t : Taken it) where
    pub taken_next : (i : ℕ) (w : Bor (List ℕ)) → enumerate_steps chunks_steps it (Some (i, w)) it' → Next it it' i w.now
    taken_next i w st =
        let k : ℕ = enumerate_count it in
        let rest : List ℕ = chunks_rest (enumerate_source it) in
        let size : ℕ = chunks_size (enumerate_source it) in
        let n : Turn L input (chunks_rest (enumerate_source it')) (chunks_size (enumerate_source it')) (k + 1) = turn_next L input p rest size k t w.now _ st.0.1.0 st.0.1.1 _ st.0.0 st.0.1.2 in
        record {
          at = sym st.1;
          more = rw st.1 (turn_more L input p rest size k t st.0.1.2);
          piece = rw st.1 (turn_piece L input p rest size k t w.now _ st.0.1.0 st.0.1.1);
          up = st.2 ∙ ap (λ (j : ℕ). j + 1) (sym st.1);
          taken = rw st.2 n;
        }

    pub taken_all : enumerate_steps chunks_steps it None it' → enumerate_count it ≡ rounded_up (length input) L
    taken_all st = turn_end L input p _ _ _ t st.0.1.0

-- of k rows of A bytes there is room for row i
pub row_room : (i k A l : ℕ) → i < k → k * A ≤ l → i * A + A ≤ l
row_room i k A l h r = omega (arith, row_fit i k A h, r)
