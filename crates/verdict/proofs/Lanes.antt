-- The model on symbols whose known ones have rows with no coefficient, and any constant κ of a row: κ reads a word off these rows, and the verdict on that
-- word is read, by κ, off the rows that the solver leaves.
--     Constant                what κ has to be
--     lane_sym, lane_word       a symbol, and the word, as κ reads it
--     same-erased, same-unknowns, same-equations     all such words have the same symbols erased
--     lane-within             no row that the model finds has a coefficient beyond the unknowns
--     lane-candidates         the word's candidates are the values, by κ, of the codeword's rows at the solutions of the equations
--     lane-verdict            the verdict
--     constant-constant       the decoder's constant is one
use mathlib.Core.Path.{◌≡◌, refl, sym, ap, ap₂, ◌∙◌}
use Prim.Native.Nat.{ℕ, zero, suc, ◌+◌, ◌*◌, ◌/◌, ◌^◌, ◌≤◌, ◌<◌}
use native.Mathlib.Omega.{arith}
use mathlib.Core.Bool.{Bool, true, false, not, ◌&&◌}
use mathlib.Core.List.{List, [], ◌∷◌, map}
use mathlib.Core.Option.{some}
use lib.ListN.{length, get_or, get_or-eq_default}
use Rattle.bits.specs.Vectors.{◌⊕◌, bit, ones, tab, all, filter, all_bits}
use Rattle.bits.specs.Rows.{Row, has, nought_row}
use Rattle.bits.proofs.Xor.{⊕-false}
use Rattle.bits.proofs.Tests.{length-tab}
use Rattle.bits.proofs.Rising.{bits-length}
use Rattle.gf2.specs.Solve.{lead, solve}
use Rattle.gf2.specs.System.{Each, Hom, Within, dot, value, vanishes}
use Rattle.bits.proofs.RowXor.{has-⊻}
use Rattle.gf2.proofs.Leads.{lead_above, lead-⊻_le}
use Rattle.gf2.proofs.Sums.{dot-none, value_hom}
use Rattle.meaning.specs.Sheet.{Rule, early}
use Rattle.meaning.specs.Codewords.{erased, candidates}
use Rattle.meaning.specs.Answers.{verdict}
use Rattle.meaning.specs.Open.{is_open, open_all, open_free, closed_frozen, unknowns, equations}
use Rattle.model.specs.Model.{Out, start, symbol, run, system}
use Rattle.model.specs.AtBits.{bits, assign, x_at, solves}
use Rattle.model.specs.Related.{Along, nil, cons, Sym, gone, known, Bound, BoundOut}
use Rattle.model.proofs.Relate.{Graph, along_append, along_map, decode_bound, checks_bound}
use Rattle.model.proofs.Exact.{exact}
use Rattle.model.proofs.RowValues.{rows_sizes}
use Rattle.model.specs.RowValues.{unit_row, unknown_row, row_values, held, placed, rows_out, rows_system}
use Rattle.verdict.specs.OffRows.{strips_by, verdict_by, constant}
use Rattle.verdict.proofs.Listing.{map-filter}
use Rattle.verdict.proofs.OneBit.{has-nought, has_same, has_other, unit_row_lem, dot-nought, dot-unknown, lead-within}
use Rattle.verdict.proofs.Places.{verdict-rows}

-- a sum of bits of the row that has the constant 1, and of which 0 and the first g unknowns have none
pub record Constant (c w g : ℕ) (κ : Row → Bool) : Type 0 where
  pub hom : Hom κ
  pub nought : κ (nought_row w) ≡ false
  pub unit : κ (unit_row c w) ≡ true
  pub unknown : (k : ℕ) → k < g → κ (unknown_row w k) ≡ false

-- ---- the word that κ reads off the rows

abbrev pub lane_sym : (Row → Bool) → ℕ → Row → ℕ
lane_sym κ zero x = bit (κ x)
lane_sym κ (suc zero) x = bit (κ x)
lane_sym κ (suc (suc s)) x = 2

abbrev pub lane_word : (Row → Bool) → List ℕ → (ℕ → Row) → List ℕ
lane_word κ d f = tab (length d) (λ (j : ℕ). lane_sym κ (get_or d j 2) (f j))

module _ (κ : Row → Bool) where
  pub same-erased : (d : List ℕ) (f : ℕ → Row) → map erased (lane_word κ d f) ≡ map erased d
  same-erased [] f = refl
  same-erased (s ∷ d) f = ap₂ {C = List Bool} ◌∷◌ (one s (κ (f 0)) refl) (same-erased d (λ (j : ℕ). f (suc j)))
    where
      bit-known : (b : Bool) → erased (bit b) ≡ false
      bit-known true = refl
      bit-known false = refl

      one : (s : ℕ) (b : Bool) → κ (f 0) ≡ b → erased (lane_sym κ s (f 0)) ≡ erased s
      one zero b q = bit-known (κ (f 0))
      one (suc zero) b q = bit-known (κ (f 0))
      one (suc (suc s)) b q = refl

  module _ (n : ℕ) (ks : List Rule) (d : List ℕ) (f : ℕ → Row) where
    same_open : open_all n (lane_word κ d f) ≡ open_all n d
    unfolding open_all
    same_open = ap (λ (es : List Bool). tab (2 ^ n) (is_open n es)) (same-erased d f)

    pub same-unknowns : unknowns n ks (lane_word κ d f) ≡ unknowns n ks d
    unfolding unknowns
    same-unknowns = ap (λ (o : List Bool). ones (open_free ks o)) same_open

    pub same-equations : (r : ℕ) → equations n ks r (lane_word κ d f) ≡ equations n ks r d
    unfolding equations
    same-equations r = ap (λ (o : List Bool). ones (closed_frozen ks o) + r) same_open

-- ---- the model on the rows

each_along : {A : Type 0} {P : Row → Type 0} {l : List Row} {m : List A} → Along (λ (x : Row) (a : A). P x) l m → Each P l
each_along nil i h = absurd (omega arith)
each_along (cons p t) zero h = p
each_along (cons p t) (suc i) h = each_along t i (omega arith)

all_map : {A B : Type 0} (f : A → B) (p : B → Bool) (l : List A) → all p (map f l) ≡ all (λ (a : A). p (f a)) l
all_map f p [] = refl
all_map f p (a ∷ l) = ap (λ (b : Bool). p (f a) && b) (all_map f p l)

module _ (c w g : ℕ) (hc : c < w) (hg : g ≤ 64 * c) where
  unit_word_lem : 64 * c / 64 < w
  unit_word_lem = omega arith

  coefficients : (k : ℕ) → k < g → k / 64 < w
  coefficients k l = omega arith

  -- no coefficient at or above g
  abbrev Few : Row → Row → Type 0
  Few x y = lead c x ≤ g

  lead_bound : Bound Few g (row_values c w) (row_values c w)
  lead_bound =
      record {
        plus = λ {a} {a'} p q. lead-⊻_le c g a a' p q;
        nought = lead-within c g _ (λ t l m. has-nought w t);
        unit = lead-within c g _ (λ t l m. ap (has t) (unit_row_lem c w) ∙ has_other w (64 * c) unit_word_lem t (λ (q : t ≡ 64 * c). omega arith));
        unknown = λ k h. lead-within c g _ (λ t l m. has_other w k (coefficients k h) t (λ (q : t ≡ k). omega arith));
      }

  module _ (rule : ℕ → Rule) (n : ℕ) (d : List ℕ) (f : ℕ → Row) (within : (rows_out c w rule n d f).after.next ≤ g) (bare : (j : ℕ) → j < length d → lead c (f j) ≡ 0) where
    abbrev O : Out Row
    O = rows_out c w rule n d f

    -- ---- no coefficient beyond the unknowns

    few_syms : (d : List ℕ) (f : ℕ → Row) → ((j : ℕ) → j < length d → lead c (f j) ≡ 0) → Along (Sym Few) (placed d f) (placed d f)
    few_syms [] f k = nil
    few_syms (s ∷ d) f k = cons (one s) (few_syms d (λ (j : ℕ). f (suc j)) (λ j p. k (suc j) (omega arith)))
      where
        low : lead c (f 0) ≤ g
        low = let z = k 0 (omega arith) in omega arith

        one : (s : ℕ) → Sym Few (held s (f 0)) (held s (f 0))
        one zero = known low
        one (suc zero) = known low
        one (suc (suc s)) = gone

    few_out : BoundOut Few O O
    few_out = decode_bound g (row_values c w) (row_values c w) lead_bound rule n (few_syms d f bare) {s = start} {t = start} (record { us = nil; next = refl; eqs = nil }) within

    pub lane-within : Within c g O.block × ((r : ℕ) → Within c g (rows_system c w rule n d f r))
    lane-within = (
      each_along few_out.block,
      λ r. each_along (along_append few_out.after.eqs (checks_bound g (row_values c w) (row_values c w) lead_bound r (tab (2 ^ n) rule) few_out.after.us)),
    )

    -- ---- at bits t for the unknowns

    module _ (κ : Row → Bool) (K : Constant c w g κ) where
      abbrev lane : List ℕ
      lane = lane_word κ d f

      module _ (t : List Bool) (lt : length t ≡ g) where
        abbrev h : Row → Bool
        h x = value κ t x

        lane_bound : Bound (Graph h) g (row_values c w) (bits (assign t))
        lane_bound =
            record {
              plus = λ {a} {a'} p q. value_hom κ K.hom t a a' ∙ ap₂ ◌⊕◌ p q;
              nought = ap₂ ◌⊕◌ (dot-nought w t) K.nought;
              unit = ap₂ ◌⊕◌ (ap (λ (x : Row). dot 0 x t) (unit_row_lem c w) ∙ dot-unknown w (64 * c) t unit_word_lem ∙ get_or-eq_default t false (omega arith)) K.unit;
              unknown = λ k l. ap₂ ◌⊕◌ (dot-unknown w k t (coefficients k l)) (K.unknown k l) ∙ ⊕-false (assign t k);
            }

        lane-syms : (d : List ℕ) (f : ℕ → Row) → ((j : ℕ) → j < length d → dot 0 (f j) t ≡ false) → Along (Sym (Graph h)) (placed d f) (map (symbol (bits (assign t))) (lane_word κ d f))
        lane-syms [] f k = nil
        lane-syms (s ∷ d) f k = cons (one s) (lane-syms d (λ (j : ℕ). f (suc j)) (λ j p. k (suc j) (omega arith)))
          where
            bare-value : h (f 0) ≡ κ (f 0)
            bare-value = ap (λ (b : Bool). b ⊕ κ (f 0)) (k 0 (omega arith))

            read : (b : Bool) → h (f 0) ≡ b → Sym (Graph h) (some (f 0)) (symbol (bits (assign t)) (bit b))
            read true q = known q
            read false q = known q

            one : (s : ℕ) → Sym (Graph h) (held s (f 0)) (symbol (bits (assign t)) (lane_sym κ s (f 0)))
            one zero = read (κ (f 0)) bare-value
            one (suc zero) = read (κ (f 0)) bare-value
            one (suc (suc s)) = gone

        no-sum : (j : ℕ) → j < length d → dot 0 (f j) t ≡ false
        no-sum j p = dot-none 0 (f j) t (λ i a b. lead_above c (f j) i (omega (arith, bare j p)) (omega arith))

        lane-out : BoundOut (Graph h) O (run (bits (assign t)) rule n lane)
        unfolding run
        lane-out = decode_bound g (row_values c w) (bits (assign t)) lane_bound rule n (lane-syms d f no-sum) {s = start} {t = start} (record { us = nil; next = refl; eqs = nil }) within

        lane-block : map h O.block ≡ x_at rule n lane t
        unfolding x_at
        lane-block = along_map h lane-out.block

        lane-solves : (r : ℕ) → vanishes h (rows_system c w rule n d f r) ≡ solves rule n r lane t
        unfolding solves system
        lane-solves r =
            sym (all_map h not (rows_system c w rule n d f r))
            ∙ ap (all not) (along_map h (along_append lane-out.after.eqs (checks_bound g (row_values c w) (bits (assign t)) lane_bound r (tab (2 ^ n) rule) lane-out.after.us)))

      -- ---- the law

      pub lane-candidates : length d ≡ 2 ^ n → unknowns n (tab (2 ^ n) rule) d ≡ g → early 0 (tab (2 ^ n) rule) ≡ true → (r : ℕ)
          → candidates n (tab (2 ^ n) rule) r lane
          ≡ map (λ (t : List Bool). map (value κ t) O.block) (filter (λ (t : List Bool). vanishes (value κ t) (rows_system c w rule n d f r)) (all_bits g))
      lane-candidates ld eg ok r =
          exact rule n lane (length-tab (length d) _ ∙ ld) ok r
          ∙ ap (λ (k : ℕ). map (x_at rule n lane) (filter (solves rule n r lane) (all_bits k))) (same-unknowns κ n (tab (2 ^ n) rule) d f ∙ eg)
          ∙ sym (map-filter (λ (t : List Bool). map (value κ t) O.block) (x_at rule n lane)
          (λ (t : List Bool). vanishes (value κ t) (rows_system c w rule n d f r)) (solves rule n r lane) (all_bits g)
          (λ t m. let l = bits-length g t m in (lane-block t l, lane-solves t l r)))

      -- the verdict, off the rows that the solver leaves
      pub lane-verdict : length d ≡ 2 ^ n → unknowns n (tab (2 ^ n) rule) d ≡ g → early 0 (tab (2 ^ n) rule) ≡ true → (r m : ℕ) (out : List ℕ)
          → (let e = rows_system c w rule n d f r in
          verdict n g m (candidates n (tab (2 ^ n) rule) r lane) out ≡ verdict_by c κ (strips_by c κ (solve c e O.block).rest) g m (solve c e O.block) out)
      lane-verdict ld eg ok r m out =
          ap (λ (cs : List (List Bool)). verdict n g m cs out) (lane-candidates ld eg ok r)
          ∙ verdict-rows c κ K.hom (rows_system c w rule n d f r) O.block g hg (lane-within.1 r) lane-within.0 n (rows_sizes c w rule n d f ld).0 m out

-- ---- the decoder's constant

module _ (c w : ℕ) (hc : c < w) where
  behind : 64 * c / 64 < w
  behind = omega arith

  pub constant-unit : constant c (unit_row c w) ≡ true
  constant-unit = ap (has (64 * c)) (unit_row_lem c w) ∙ has_same w (64 * c) behind

  pub unit-bare : lead c (unit_row c w) ≡ 0
  unit-bare = let l = lead-within c 0 (unit_row c w) (λ t p q. ap (has t) (unit_row_lem c w) ∙ has_other w (64 * c) behind t (λ (e : t ≡ 64 * c). omega arith)) in omega arith

  pub constant-constant : (g : ℕ) → g ≤ 64 * c → Constant c w g (constant c)
  constant-constant g hg =
      record {
        hom = has-⊻ (64 * c);
        nought = has-nought w (64 * c);
        unit = constant-unit;
        unknown = λ k l. has_other w k (omega arith) (64 * c) (λ (q : 64 * c ≡ k). omega arith);
      }
