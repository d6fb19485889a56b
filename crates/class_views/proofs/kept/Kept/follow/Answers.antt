use Rattle.std.proofs.Common.{◌≡◌, ℕ, sym, ◌∙◌, subst}
use Rattle.std.specs.Prelude.{Some}
use Rattle.class_views.specs.Kept.{IsChangedAt}
use Rattle.class_views.proofs.kept.Kept.follow.Goals as goal

some_injective : {m n : ℕ} → Some m ≡ Some n → m ≡ n
some_injective same = cc

pub returns-in-Some-clause-board : goal.returns-in-Some-clause-board
returns-in-Some-clause-board c own from to about =
    let here = some_injective (sym c.in-Some.ensures.board ∙ about) in
    subst (λ (n : ℕ). IsChangedAt c.args.state.now n c.args.self.now.classes.items c.args.self.now.rows.items
    c.change.new.self.classes.items c.change.new.self.rows.items) here c.change.ensures.changed

pub returns-in-Some-clause-none : goal.returns-in-Some-clause-none
returns-in-Some-clause-none c none =
    absurd (none c.in-Some.board c.in-Some.ensures.from c.in-Some.ensures.to c.in-Some.ensures.board)

pub returns-in_default-clause-board : goal.returns-in_default-clause-board
returns-in_default-clause-board c own from to about = absurd (c.in_default.ensures.none own from to about)
