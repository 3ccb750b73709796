-- `view::start_of` meets its contract: at each `return` the tests that led there say whether the strip has the record.
use mathlib.Core.Path.{refl}
use native.Mathlib.Omega.{arith}
use Rattle.meaning.specs.Limits.{largest_n}
use Rattle.view.specs.Viewing.{cartridge_bytes}
use Rattle.view.proofs.Cases.{none_large, none-behind, none_other, there}
use Rattle.view.proofs.start_of.Goals as goal

-- n above the largest
pub returns-then-n-gt-LARGEST : goal.returns-then-n-gt-LARGEST
unfolding largest_n
returns-then-n-gt-LARGEST c = none_large _ _ _ c.if-n-gt-LARGEST.true

pub size_of-size-requires : goal.size_of-size-requires
unfolding largest_n
size_of-size-requires c = omega (arith, c.if-n-gt-LARGEST.false)

-- a position of N or more
pub returns-then-size-at : goal.returns-then-size-at
returns-then-size-at c =
    let e = c.size_of-size.ensures in
    none-behind _ _ _ (omega (arith, c.if-size-at.true))

pub returns-then-len-size : goal.returns-then-len-size
unfolding cartridge_bytes
returns-then-len-size c =
    let e = c.size_of-size.ensures in
    none_other _ _ _ (λ x. omega (arith, c.if-len-size.true))

-- the record
pub returns : goal.returns
unfolding largest_n cartridge_bytes
returns c =
    let a = c.args in
    let e = c.size_of-size.ensures in
    (there a.n a.at _ (omega (arith, c.if-n-gt-LARGEST.false)) (omega (arith, c.if-size-at.false)) (omega (arith, c.if-len-size.false)), refl, omega arith)
