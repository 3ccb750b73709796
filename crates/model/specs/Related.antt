-- What it is for two runs of the model to be bound by a relation, place by place. A relation says more than a map: it can also carry what the values of one side
-- always keep, as the length of a row.
--     Along, Sym               lists and symbols that a relation binds
--     Bound lim                two ways to compute that it binds, as far as the first lim unknowns go
--     BoundWalk, BoundOut      what is known on the way, and what a block gives
--     Hom                      a map that keeps sums, 0, 1 and the unknowns
--     map_sym, map_walk, map_out  such a map, over symbols, over what is known, over what a block gives
use Rattle.std.specs.Prelude.{◌≡◌, ℕ, ◌<◌, List, [], ◌∷◌, map}
use Rattle.std.proofs.Math.Option.{Option, none, some}
use Rattle.model.specs.Model.{Values, Walk, Out}

-- ---- a relation

module _ {A B : Type 0} (R : A → B → Type 0) where
  pub data Along : List A → List B → Type 0 where
    nil : Along [] []
    cons : {a : A} {b : B} {l : List A} {m : List B} → R a b → Along l m → Along (a ∷ l) (b ∷ m)

  pub data Sym : Option A → Option B → Type 0 where
    gone : Sym none none
    known : {a : A} {b : B} → R a b → Sym (some a) (some b)

pub record Bound {A B : Type 0} (R : A → B → Type 0) (lim : ℕ) (𝓐 : Values A) (𝓑 : Values B) : Type 0 where
  pub plus : {a a' : A} {b b' : B} → R a b → R a' b' → R (𝓐.plus a a') (𝓑.plus b b')
  pub nought : R 𝓐.nought 𝓑.nought
  pub unit : R 𝓐.unit 𝓑.unit
  pub unknown : (k : ℕ) → k < lim → R (𝓐.unknown k) (𝓑.unknown k)

pub record BoundWalk {A B : Type 0} (R : A → B → Type 0) (s : Walk A) (t : Walk B) : Type 0 where
  pub us : Along R s.us t.us
  pub next : s.next ≡ t.next
  pub eqs : Along R s.eqs t.eqs

pub record BoundOut {A B : Type 0} (R : A → B → Type 0) (o : Out A) (p : Out B) : Type 0 where
  pub block : Along R o.block p.block
  pub after : BoundWalk R o.after p.after

-- ---- a map

pub record Hom {A B : Type 0} (h : A → B) (𝓐 : Values A) (𝓑 : Values B) : Type 0 where
  pub plus : (a a' : A) → h (𝓐.plus a a') ≡ 𝓑.plus (h a) (h a')
  pub nought : h 𝓐.nought ≡ 𝓑.nought
  pub unit : h 𝓐.unit ≡ 𝓑.unit
  pub unknown : (k : ℕ) → h (𝓐.unknown k) ≡ 𝓑.unknown k

module _ {A B : Type 0} (h : A → B) where
  abbrev pub map_sym : Option A → Option B
  map_sym none = none
  map_sym (some a) = some (h a)

  abbrev pub map_walk : Walk A → Walk B
  map_walk s = record { us = map h s.us; next = s.next; eqs = map h s.eqs }

  abbrev pub map_out : Out A → Out B
  map_out o = record { block = map h o.block; after = map_walk o.after }
