use Rattle.std.proofs.Common.{◌≡◌, ◌<◌, sym, ◌∙◌, subst, length, arith, refl}
use Rattle.std.proofs.lemmas.Bool.{eqb-false}
use Rattle.sg_unparse.specs.Written.{Owns}
use Rattle.sg_unparse.proofs.Put.{put_written}
use Rattle.sg_unparse.proofs.writer.Writer.fill.Goals as goal

pub returns : goal.returns
returns c =
    let w = c.args.self.now in
    let len : c.len-at.result ≡ length w.text.items = c.len-at.ensures ∙ w.text.ok.0 in
    let some : 0 < length c.args.text.now = (let none = eqb-false (length c.args.text.now) 0 (sym c.is_empty.ensures ∙ c.if-is_empty.false) in omega (arith, none)) in
    λ at u is. put_written at w _ u c.args.text.now some (omega (arith, some, c.requires)) c.in_ok-extend_from_slice.ensures.items
    (subst (λ o. Owns w.runs.items c.own.new.runs.items (length w.text.items) o) (sym is) (subst (λ n. Owns w.runs.items c.own.new.runs.items n c.args.owner) len c.in_ok-own.ensures)) refl refl refl
