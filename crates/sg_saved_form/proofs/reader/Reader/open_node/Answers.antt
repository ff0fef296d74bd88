use Rattle.std.proofs.Common.{◌≡◌, ◌∙◌, ◌++◌, ◌∷◌, [], ap, sym, refl, is_some, false, length}
use Rattle.sg_text.specs.Words.{keyword_of}
use Rattle.sg_saved_form.proofs.Noting.{node-opened, fed-open}
use Rattle.sg_saved_form.specs.declared.reader.Mode.TheVariants as mode
use Rattle.sg_saved_form.proofs.reader.Reader.open_node.Goals as goal

pub returns : goal.returns
returns c os bs is at =
    let word : c.keyword_of.result ≡ keyword_of bs = c.keyword_of.ensures ∙ ap keyword_of (c.as_slice.ensures.value ∙ is.1) in
    let free : is_some (keyword_of bs) ≡ false = ap is_some (sym word) ∙ sym c.is_some.ensures ∙ c.if-is_some.false in
    let place : c.len-place.result ≡ length c.args.self.now.notes.items = c.len-place.ensures ∙ c.args.self.now.notes.ok.0 in
    fed-open (is_some (keyword_of bs)) _ _ free
    (node-opened c.args.self.now _ mode.Name os bs c.args.at is.0 at refl (c.in_ok-push.ensures.items ∙ (λ i. (c.in_ok-note.ensures.rest i).path.items ++ place i ∷ [])) c.in_ok-note.ensures.noted c.in_ok-note.ensures.depth)
