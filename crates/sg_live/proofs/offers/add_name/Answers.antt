use Rattle.std.proofs.Common.{List, ℕ, sym, ap, ◌∙◌}
use Rattle.std.specs.Borrow.{Bor}
use Rattle.std.specs.List.{list_any}
use Rattle.std.specs.Prelude.{bytes_eq}
use Rattle.sg_live.proofs.OfferLemmas.{name_there, name_new}
use Rattle.sg_live.proofs.offers.add_name.Goals as goal

pub returns-then-is_among : goal.returns-then-is_among
returns-then-is_among c =
    name_there c.args.names.now.items c.args.name.now (ap (list_any (λ (o : Bor (List ℕ)). bytes_eq c.args.name.now o.now)) (sym c.deref.ensures.value) ∙ sym c.if-is_among.ensures)

pub returns : goal.returns
returns c =
    name_new c.args.names.now.items c.push.new.self.items c.args.name (ap (list_any (λ (o : Bor (List ℕ)). bytes_eq c.args.name.now o.now)) (sym c.deref.ensures.value) ∙ sym c.if-is_among.ensures)
    c.in_ok-push.ensures.items
