use Rattle.std.proofs.Common.{◌≡◌, [], ◌∷◌, sym, ◌∙◌, subst, length, arith, refl}
use Rattle.sg_unparse.specs.Written.{Owns}
use Rattle.sg_unparse.proofs.Put.{full_put, put_written}
use Rattle.sg_unparse.proofs.writer.Writer.put.Goals as goal

pub returns-then-at-ge-CELLS : goal.returns-then-at-ge-CELLS
returns-then-at-ge-CELLS c = λ at u is. full_put at c.args.self.now u c.args.b (omega (arith, c.if-at-ge-CELLS.true, c.len-at.ensures, c.args.self.now.text.ok.0))

pub returns : goal.returns
returns c =
    let w = c.args.self.now in
    let len : c.len-at.result ≡ length w.text.items = c.len-at.ensures ∙ w.text.ok.0 in
    λ at u is. put_written at w _ u (c.args.b ∷ []) (omega arith) (omega (arith, c.if-at-ge-CELLS.false, len)) c.in_ok-push.ensures.items
    (subst (λ o. Owns w.runs.items c.own.new.runs.items (length w.text.items) o) (sym is) (subst (λ n. Owns w.runs.items c.own.new.runs.items n c.args.owner) len c.in_ok-own.ensures)) refl refl refl
