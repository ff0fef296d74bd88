use Rattle.std.proofs.Common.{[], ◌∷◌, ◌++◌, ◌∙◌, ap, sym, length, arith}
use Rattle.std.proofs.lemmas.Bool.{false≢true}
use Rattle.sg_sets.specs.Members.{Has}
use Rattle.sg_sets.specs.Rows.{row_of, Holds}
use Rattle.sg_sets.proofs.BeforeLemmas.{Path-below}
use Rattle.sg_sets.proofs.CloseLemmas.{Holds-path}
use Rattle.sg_sets.proofs.MembersLemmas.{has-below}
use Rattle.sg_sets.proofs.WaysLemmas.{way-least, way-shortest, way-first}
use Rattle.sg_sets.proofs.relation.Relation.way.Goals as goal

pub returns-then-a-size-clause-none : goal.returns-then-a-size-clause-none
returns-then-a-size-clause-none c = λ path. let low = Path-below c.args.self.now c.args.a c.args.b path in omega (arith, low)

pub returns-then-not-contains-clause-none : goal.returns-then-not-contains-clause-none
returns-then-not-contains-clause-none c = λ path.
    let contains = rw c.in_ok-closed.ensures at c.close.ensures.contains in
    let closed = Holds-path c.args.self.now c.close.new.self contains c.close.ensures.transitive c.args.a c.args.b path in
    false≢true (sym c.if-not-contains.true ∙ c.contains.ensures.1 (rw c.successors.ensures.row closed))

pub layers-requires : goal.layers-requires
layers-requires c =
    let has = c.contains.ensures.0 c.if-not-contains.false in
    let closed : Has (row_of c.close.new.self c.args.a) c.args.b = rw c.successors.ensures.row at has in
    let least = rw c.in_ok-closed.ensures at c.close.ensures.least in
    let low = has-below c.successors.result.now c.args.b has in
    record {
      path = least c.args.a c.args.b closed;
      goal = omega (arith, low, c.successors.ensures.width, c.close.ensures.size, ap length c.in_ok-closed.ensures);
    }

pub returns-clause-way : goal.returns-clause-way
returns-clause-way c =
    let l = c.in_ok-way.ensures in
    let is = c.in_ok-push.ensures.items ∙ ap (λ xs. xs ++ c.args.b ∷ []) l.1 in
    way-least (Holds c.args.self.now) c.args.a c.args.b (length c.in_ok-layers.layers.items) l.0 c.push.new.self.items is l.2

pub returns-clause-shortest : goal.returns-clause-shortest
returns-clause-shortest c =
    let l = c.in_ok-way.ensures in
    let is = c.in_ok-push.ensures.items ∙ ap (λ xs. xs ++ c.args.b ∷ []) l.1 in
    way-shortest (Holds c.args.self.now) c.args.a c.args.b (length c.in_ok-layers.layers.items) l.0 c.push.new.self.items is c.in_ok-layers.ensures.apart l.2

pub returns-clause-least : goal.returns-clause-least
returns-clause-least c =
    let l = c.in_ok-way.ensures in
    let is = c.in_ok-push.ensures.items ∙ ap (λ xs. xs ++ c.args.b ∷ []) l.1 in
    way-first (Holds c.args.self.now) c.args.a c.args.b (length c.in_ok-layers.layers.items) l.0 c.push.new.self.items is l.2
