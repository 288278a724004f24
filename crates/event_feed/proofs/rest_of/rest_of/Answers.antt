-- `rest_of` meets its contract. Assumes nothing.
use borrow.Author.Rules.{rules}
use mathlib.Core.Path.{refl}
use native.Mathlib.Omega.{arith}
use Rattle.event_feed.proofs.rest_of.rest_of.Goals as goal

pub returns-then-ran-eq0 : goal.returns-then-ran-eq0
returns-then-ran-eq0 c =
    let k = c.keep-kept in
    let t = c.if-ran-eq0.true in
    let m = k.ensures.0 in
    let s = c.requires.2 in
    record {
      none = λ z. (refl, refl, k.ensures.1);
      some = λ h. absurd (let y : ⊥ = omega (arith, t, h) in y);
      all = λ h. absurd (let y : ⊥ = omega (arith, t, h) in y);
      inside = search rules;
      within = omega arith;
      space = λ z. omega arith;
    }

pub returns-then-from-ran : goal.returns-then-from-ran
returns-then-from-ran c =
    let t = c.if-ran-eq0.false in
    let u = c.if-from-ran.true in
    record {
      none = λ z. absurd (t z);
      some = λ h g. (refl, refl, refl, refl);
      all = λ h g. absurd (let y : ⊥ = omega (arith, u, g) in y);
      inside = search rules;
      within = c.requires.1;
      space = λ z. absurd (let y : ⊥ = omega (arith, u, z) in y);
    }

pub returns : goal.returns
returns c =
    let t = c.if-ran-eq0.false in
    let u = c.if-from-ran.false in
    record {
      none = λ z. absurd (t z);
      some = λ h g. absurd (let y : ⊥ = omega (arith, u, g) in y);
      all = λ h g. (refl, refl, refl);
      inside = search rules;
      within = search rules;
      space = λ z. omega arith;
    }
