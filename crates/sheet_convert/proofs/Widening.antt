-- The records of a widened sheet say what those of the sheet said.
--     Wider L M         M has room for the records of L, and the masks of L for the positions of its sheets
--     wider, next_wider     today's layout is wider than the old one, and any next one than today's
--     size_fits         N of an old sheet is no more than the positions of its masks; old-positions, N as the code has it
--     new-byte          byte k of a new record: the old record's, or 0 behind it
--     grown, new-mask   the mask of an old record, and no more names
--     new-fine          a new record breaks no rule where the old one breaks none
--     new-rules         the rules are the same, their masks grown
--     new_bad           the first bad record is the same
use mathlib.Core.Path.{◌≡◌, refl, ap, ap₂, ◌∙◌}
use Prim.Native.Nat.{ℕ, zero, suc, ◌+◌, ◌*◌, ◌-◌, ◌/◌, ◌%◌, ◌^◌, ◌≤◌, ◌<◌}
use native.Mathlib.Omega.{arith}
use native.Mathlib.Nat.{mul-add-div_right, mul-add-mod_self_right, mod-eq_of_lt, div-eq_of_lt, add-zero}
use mathlib.Core.Bool.{Bool, true, false, not}
use mathlib.Core.List.{List, [], ◌∷◌, ◌++◌}
use lib.ListN.{length, drop, replicate}
use lib.Seq.{drop-append-le}
use lib.Dec.{eqb, ltb}
use lib.Pow.{pow_mono}
use borrow.Author.Tests.{lt-ltb, le-ltb}
use Rattle.bits.specs.Vectors.{pick, tab, first_place, zeros}
use Rattle.bits.specs.Words.{bit_at}
use Rattle.bits.proofs.Tests.{length-tab, tab-at, tab_below, tab_append}
use Rattle.bits.proofs.RowLaws.{row_fit}
use Rattle.bits.proofs.WordBits.{zero_bit}
use Rattle.meaning.specs.Limits.{Layout, layout, old_layout, largest_n, mask_bytes, record_bytes, old_largest_n, old_mask_bytes, old_record_bytes}
use Rattle.meaning.specs.Sheet.{Rule, free, frozen, byte_in, names_in, mask_in, rule_in, rules_in, fine_in, bad_in}
use Rattle.sheet.specs.Shapes.{positions}
use Rattle.sheet.proofs.Shapes.{positions-all}
use Rattle.sheet_convert.specs.Conversion.{wide_at, widened}

-- ---- two layouts

pub record Wider (L M : Layout) : Type 0 where
  pub head : L.bytes ≡ 4 + L.mask
  pub head' : M.bytes ≡ 4 + M.mask
  pub wide : L.mask ≤ M.mask
  pub high : L.largest ≤ M.largest
  pub room : 2 ^ L.largest ≤ 8 * L.mask

pub wider : Wider old_layout layout
unfolding largest_n mask_bytes record_bytes old_largest_n old_mask_bytes old_record_bytes
wider = record { head = refl; head' = refl; wide = omega arith; high = omega arith; room = omega arith }

-- the next layout, with longer masks, is wider than today's
pub next_wider : (n m : ℕ) → largest_n ≤ n → mask_bytes ≤ m → Wider layout (record { largest = n; mask = m; bytes = 4 + m })
unfolding largest_n mask_bytes record_bytes
next_wider n m h k = record { head = refl; head' = refl; wide = k; high = h; room = omega arith }

-- N of an old sheet is no more than the positions of its masks
pub size_fits : (n : ℕ) → n ≤ old_largest_n → 2 ^ n ≤ 8 * old_mask_bytes
size_fits n h = omega (arith, pow_mono h, wider.room)

-- N of an old sheet, as the code has it
pub old-positions : (n : ℕ) → n ≤ old_largest_n → positions n ≡ 2 ^ n
old-positions n h = positions-all n (omega (arith, wider.high))

-- the positions that only the masks of M have
abbrev pub more : Layout → Layout → ℕ
more L M = 8 * M.mask - 8 * L.mask

-- ---- a mask with no more names

abbrev pub grown : ℕ → List Bool → List Bool
grown k m = m ++ replicate k false

abbrev pub grown_rule : ℕ → Rule → Rule
grown_rule k free = free
grown_rule k (frozen c m) = frozen c (grown k m)

none-tab : (n : ℕ) (f : ℕ → Bool) → ((i : ℕ) → i < n → f i ≡ false) → tab n f ≡ replicate n false
none-tab zero f h = refl
none-tab (suc n) f h = ap₂ {C = List Bool} ◌∷◌ (h zero (omega arith)) (none-tab n (λ (i : ℕ). f (suc i)) (λ i l. h (suc i) (omega arith)))

zeros_grown : (m : List Bool) (k : ℕ) → zeros (grown k m) ≡ zeros m
zeros_grown [] zero = refl
zeros_grown [] (suc k) = zeros_grown [] k
zeros_grown (true ∷ m) k = refl
zeros_grown (false ∷ m) k = zeros_grown m k

-- ---- the records

module _ {L M : Layout} (W : Wider L M) (n : ℕ) (s : List ℕ) where
  abbrev new : List ℕ
  new = widened L M n s

  pub new-long : length new ≡ 2 ^ n * M.bytes
  unfolding widened
  new-long = length-tab (2 ^ n * M.bytes) (wide_at L M s)

  module _ (i : ℕ) (h : i < 2 ^ n) where
    -- where byte k of a new record stands
    module _ (k : ℕ) (l : k < M.bytes) where
      byte_of : (i * M.bytes + k) % M.bytes ≡ k
      byte_of = mul-add-mod_self_right i M.bytes k ∙ mod-eq_of_lt l

      record_of_lem : (i * M.bytes + k) / M.bytes ≡ i
      record_of_lem = mul-add-div_right (omega arith) i k ∙ ap (λ (x : ℕ). i + x) (div-eq_of_lt l) ∙ add-zero i

      pub new-byte : byte_in M new i k ≡ pick (ltb k L.bytes) (byte_in L s i k) 0
      unfolding widened wide_at
      new-byte = tab-at (2 ^ n * M.bytes) (wide_at L M s) (i * M.bytes + k) 0 (omega (arith, row_fit i (2 ^ n) M.bytes h)) ∙ rw (byte_of, record_of_lem)

    same_byte : (k : ℕ) → k < L.bytes → byte_in M new i k ≡ byte_in L s i k
    same_byte k l = new-byte k (omega arith) ∙ rw (lt-ltb k L.bytes l)

    no_byte : (k : ℕ) → L.bytes ≤ k → k < M.bytes → byte_in M new i k ≡ 0
    no_byte k l b = new-byte k b ∙ rw (le-ltb k L.bytes l)

    same_names : (j : ℕ) → j < 8 * L.mask → names_in M new i j ≡ names_in L s i j
    unfolding names_in
    same_names j l = ap (λ (b : ℕ). eqb (bit_at b (j % 8)) 1) (same_byte (4 + j / 8) (omega arith))

    no_names : (j : ℕ) → 8 * L.mask ≤ j → j < 8 * M.mask → names_in M new i j ≡ false
    unfolding names_in
    no_names j l b = ap (λ (x : ℕ). eqb (bit_at x (j % 8)) 1) (no_byte (4 + j / 8) (omega arith) (omega arith)) ∙ zero_bit (j % 8)

    pub new-mask : mask_in M new i ≡ grown (more L M) (mask_in L s i)
    unfolding mask_in
    new-mask =
        ap (λ (k : ℕ). tab k (names_in M new i)) (let e : 8 * M.mask ≡ 8 * L.mask + more L M = omega arith in e)
        ∙ tab_append (8 * L.mask) (more L M) (names_in M new i)
        ∙ ap₂ {C = List Bool} ◌++◌ (tab_below (8 * L.mask) (names_in M new i) (names_in L s i) (λ j l. same_names j l)) (none-tab (more L M) (λ (j : ℕ). names_in M new i (8 * L.mask + j)) (λ j l. no_names (8 * L.mask + j) (omega arith) (omega arith)))

    head_byte : (k : ℕ) → k < 4 → byte_in M new i k ≡ byte_in L s i k
    head_byte k l = same_byte k (omega arith)

    pub new_rule : rule_in M new i ≡ grown_rule (more L M) (rule_in L s i)
    unfolding rule_in
    new_rule = rw (head_byte 0 (omega arith), head_byte 1 (omega arith), new-mask) (go (eqb (byte_in L s i 0) 0))
      where
        go : (b : Bool) → pick b free (frozen (eqb (byte_in L s i 1) 1) (grown (more L M) (mask_in L s i))) ≡ grown_rule (more L M) (pick b free (frozen (eqb (byte_in L s i 1) 1) (mask_in L s i)))
        go true = refl
        go false = refl

    module _ (small : n ≤ L.largest) where
      low : i ≤ length (mask_in L s i)
      unfolding mask_in
      low = omega (arith, length-tab (8 * L.mask) (names_in L s i), h, pow_mono small)

      late : zeros (drop i (mask_in M new i)) ≡ zeros (drop i (mask_in L s i))
      late = ap (λ (m : List Bool). zeros (drop i m)) new-mask ∙ ap zeros (drop-append-le i (mask_in L s i) (replicate (more L M) false) low) ∙ zeros_grown (drop i (mask_in L s i)) (more L M)

      none : zeros (mask_in M new i) ≡ zeros (mask_in L s i)
      none = ap zeros new-mask ∙ zeros_grown (mask_in L s i) (more L M)

      pub new-fine : fine_in M new i ≡ fine_in L s i
      unfolding fine_in
      new-fine = rw (head_byte 0 (omega arith), head_byte 1 (omega arith), head_byte 2 (omega arith), head_byte 3 (omega arith), late, none)

  pub new-rules : rules_in M n new ≡ tab (2 ^ n) (λ (i : ℕ). grown_rule (more L M) (rule_in L s i))
  unfolding rules_in
  new-rules = tab_below (2 ^ n) (rule_in M new) (λ (i : ℕ). grown_rule (more L M) (rule_in L s i)) (λ i h. new_rule i h)

  pub new_bad : n ≤ L.largest → bad_in M n new ≡ bad_in L n s
  unfolding bad_in
  new_bad small = ap (first_place not) (tab_below (2 ^ n) (fine_in M new) (fine_in L s) (λ i h. new-fine i h small))
