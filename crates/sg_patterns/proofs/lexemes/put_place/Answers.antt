use Rattle.std.proofs.Common.{◌≡◌, ◌<◌, length, get_or, map, arith, ap, sym, ◌∙◌, ◌++◌, ◌∷◌, [], subst}
use Rattle.std.proofs.lemmas.List.{map-set, get_or-map, length-map}
use Rattle.sg_patterns.specs.Lexemes.{IsTable}
use Rattle.sg_patterns.proofs.LiteralTexts.{table-put, none-put}
use Rattle.sg_patterns.proofs.lexemes.put_place.Goals as goal

pub returns-in-empty-clause-put : goal.returns-in-empty-clause-put
returns-in-empty-clause-put c ts len is = none-put ts _ c.args.text.now (omega arith) is

pub returns-in_ok-push-in-len1-up-clause-put : goal.returns-in_ok-push-in-len1-up-clause-put
returns-in_ok-push-in-len1-up-clause-put c ts len is =
    let rows = c.args.rows.now.items in
    let text = c.args.text.now in
    let first = get_or text 0 0 in
    let small : first < 256 = omega (arith, c.type_inv.text 0) in
    let row : c.push.new.self.items ≡ get_or (map (λ v. v.items) rows) first [] ++ length ts ∷ [] =
    c.in_ok-push-in-len1-up.ensures.items ∙ ap (λ v. v.items ++ c.args.place ∷ []) c.index_mut.ensures.value ∙ (λ i. sym (get_or-map (λ v. v.items) rows first c.index_mut.result.now [] (omega (arith, c.requires))) i ++ sym len i ∷ []) in
    subst (IsTable (ts ++ text ∷ [])) (sym (map-set (λ v. v.items) rows first c.push.new.self)) (table-put ts (map (λ v. v.items) rows) text c.push.new.self.items (omega arith) small (length-map rows (λ v. v.items) ∙ c.requires) row is)
