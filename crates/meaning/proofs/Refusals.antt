-- Tables of refusals: the first row that applies is given.
--     first-none       where no row applies, the verdict is given
--     first_append     a table may be tried in two parts
--     first_refused    where a row applies, what stands after the table does not matter
--     refused_is       and what is answered is answered by a row
--     tried_done, tried_refused     a table tried by itself, before more rows
--     in_order         the fixed order: a row that applies is given where none before it does
--     done_none        a call that answers Done was refused by no row
--     refused_untouched     a call that a row refuses leaves its buffer as found
use mathlib.Core.Path.{◌≡◌, refl, sym, ap, ◌∙◌}
use Prim.Native.Nat.{ℕ}
use mathlib.Core.Bool.{Bool, true, false, ◌&&◌, ◌||◌, not, false≢true, true≢false}
use mathlib.Core.List.{List, [], ◌∷◌, ◌++◌, append-nil}
use Rattle.bits.specs.Vectors.{pick, all}
use Rattle.bits.proofs.Tests.{or_false_l, or_false_r, and_l, and_r}
use Rattle.meaning.specs.Answers.{is_done, Refusal, first_of, refuses, fault, Reply, leaving}
use Rattle.meaning.specs.declared.Answer.{Answer}

module _ {A : Type 0} (f : Answer → A) where
  pub first_append : (a b : List Refusal) (z : A) → first_of f (a ++ b) z ≡ first_of f a (first_of f b z)
  first_append [] b z = refl
  first_append (t ∷ a) b z = rw (first_append a b z)

  pub first-none : (ts : List Refusal) (z : A) → refuses ts ≡ false → first_of f ts z ≡ z
  first-none [] z h = refl
  first-none (t ∷ ts) z h = go t.applies h (first-none ts z)
    where
      go : (b : Bool) → b || refuses ts ≡ false → (refuses ts ≡ false → first_of f ts z ≡ z) → pick b (f t.answer) (first_of f ts z) ≡ z
      go true k g = absurd (true≢false k)
      go false k g = g k

  -- what stands after a table of which a row applies
  pub first_refused : (ts : List Refusal) (y z : A) → refuses ts ≡ true → first_of f ts y ≡ first_of f ts z
  first_refused [] y z h = absurd (false≢true h)
  first_refused (t ∷ ts) y z h = go t.applies h (first_refused ts y z)
    where
      go : (b : Bool) → b || refuses ts ≡ true → (refuses ts ≡ true → first_of f ts y ≡ first_of f ts z) → pick b (f t.answer) (first_of f ts y) ≡ pick b (f t.answer) (first_of f ts z)
      go true k g = refl
      go false k g = g k

-- what each row's answer is, the answer is
pub refused_is : (p : Answer → Bool) (out : List ℕ) (ts : List Refusal) (z : Reply) → all (λ (t : Refusal). p t.answer) ts ≡ true → refuses ts ≡ true → p (first_of (leaving out) ts z).answer ≡ true
refused_is p out [] z a h = absurd (false≢true h)
refused_is p out (t ∷ ts) z a h = go t.applies h (refused_is p out ts z (and_r (p t.answer) _ a))
  where
    go : (b : Bool) → b || refuses ts ≡ true → (refuses ts ≡ true → p (first_of (leaving out) ts z).answer ≡ true) → p (pick b (leaving out t.answer) (first_of (leaving out) ts z)).answer ≡ true
    go true k g = and_l (p t.answer) _ a
    go false k g = g k

-- two parts refuse nothing: neither does
pub none_append : (a b : List Refusal) → refuses (a ++ b) ≡ false → (refuses a ≡ false) × (refuses b ≡ false)
none_append [] b h = (refl, h)
none_append (t ∷ a) b h = go t.applies h (none_append a b)
  where
    go : (c : Bool) → c || refuses (a ++ b) ≡ false → (refuses (a ++ b) ≡ false → (refuses a ≡ false) × (refuses b ≡ false)) → (c || refuses a ≡ false) × (refuses b ≡ false)
    go true k g = absurd (true≢false k)
    go false k g = g k

pub both-none : (a b : List Refusal) → refuses a ≡ false → refuses b ≡ false → refuses (a ++ b) ≡ false
both-none [] b p q = q
both-none (t ∷ a) b p q = rw (or_false_l t.applies _ p) (both-none a b (or_false_r t.applies _ p) q)

-- ---- a table tried by itself, before more rows

-- no row answers Done
abbrev pub Telling : List Refusal → Bool
Telling ts = all (λ (t : Refusal). not (is_done t.answer)) ts

pub tried_done : (ts : List Refusal) → Telling ts ≡ true → is_done (fault ts) ≡ true → refuses ts ≡ false
tried_done [] h d = refl
tried_done (t ∷ ts) h d = go t.applies (is_done t.answer) refl h d (tried_done ts)
  where
    go : (b c : Bool) → is_done t.answer ≡ c → not c && Telling ts ≡ true → is_done (pick b t.answer (fault ts)) ≡ true → (Telling ts ≡ true → is_done (fault ts) ≡ true → refuses ts ≡ false) → b || refuses ts ≡ false
    go true true e k q f = absurd (false≢true k)
    go true false e k q f = absurd (false≢true (sym e ∙ q))
    go false c e k q f = f (and_r (not c) _ k) q

-- an answer that is not Done is that of the first part, whatever follows
pub tried_refused : {A : Type 0} (f : Answer → A) (ts us : List Refusal) (z : A) → is_done (fault ts) ≡ false → first_of f (ts ++ us) z ≡ f (fault ts)
tried_refused f [] us z h = absurd (true≢false h)
tried_refused f (t ∷ ts) us z h = go t.applies h (tried_refused f ts us z)
  where
    go : (b : Bool) → is_done (pick b t.answer (fault ts)) ≡ false → (is_done (fault ts) ≡ false → first_of f (ts ++ us) z ≡ f (fault ts)) → pick b (f t.answer) (first_of f (ts ++ us) z) ≡ f (pick b t.answer (fault ts))
    go true k g = refl
    go false k g = g k

-- past a first part that refuses nothing
pub past_none : {A : Type 0} (f : Answer → A) (ts us : List Refusal) (z : A) → refuses ts ≡ false → first_of f (ts ++ us) z ≡ first_of f us z
past_none f ts us z h = first_append f ts us z ∙ first-none f ts (first_of f us z) h

pub tried_all : {A : Type 0} (f : Answer → A) (ts : List Refusal) (z : A) → is_done (fault ts) ≡ false → first_of f ts z ≡ f (fault ts)
tried_all f ts z h = ap (λ (l : List Refusal). first_of f l z) (sym (append-nil ts)) ∙ tried_refused f ts [] z h

-- the fixed order: a row that applies is given where none before it does
pub in_order : {A : Type 0} (f : Answer → A) (before after : List Refusal) (t : Refusal) (z : A) → refuses before ≡ false → t.applies ≡ true → first_of f (before ++ t ∷ after) z ≡ f t.answer
in_order f before after t z h k = past_none f before (t ∷ after) z h ∙ rw k

-- a call that answers Done was refused by no row
pub done_none : (out : List ℕ) (ts : List Refusal) (z : Reply) → Telling ts ≡ true → is_done (first_of (leaving out) ts z).answer ≡ true → refuses ts ≡ false
done_none out ts z h d = go (is_done (fault ts)) refl
  where
    go : (b : Bool) → is_done (fault ts) ≡ b → refuses ts ≡ false
    go true e = tried_done ts h e
    go false e = absurd (false≢true (sym e ∙ ap (λ (a : Reply). is_done a.answer) (sym (tried_all (leaving out) ts z e)) ∙ d))

-- a call that a row refuses leaves its buffer as found
pub refused_untouched : (out : List ℕ) (ts : List Refusal) (z : Reply) → refuses ts ≡ true → (first_of (leaving out) ts z).bytes ≡ out
refused_untouched out [] z h = absurd (false≢true h)
refused_untouched out (t ∷ ts) z h = go t.applies h (refused_untouched out ts z)
  where
    go : (b : Bool) → b || refuses ts ≡ true → (refuses ts ≡ true → (first_of (leaving out) ts z).bytes ≡ out) → (pick b (leaving out t.answer) (first_of (leaving out) ts z)).bytes ≡ out
    go true k g = refl
    go false k g = g k
