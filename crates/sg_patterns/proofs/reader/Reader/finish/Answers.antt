use Rattle.std.proofs.Common.{sym, ◌∙◌, ◌≡◌, ◌∷◌, [], arith, length}
use Rattle.sg_patterns.specs.Machine as machine
use Rattle.sg_patterns.specs.declared.reader.Mode.TheVariants as mode
use Rattle.sg_patterns.specs.Readers.{outer_parts}
use Rattle.sg_patterns.proofs.Emitting.{piece-reads, none-open}
use Rattle.sg_patterns.proofs.reader.Reader.finish.Goals as goal

pub returns-in-Ready : goal.returns-in-Ready
returns-in-Ready c (machine.Ready [] f) h = c.end.ensures mode.Ready f h
returns-in-Ready c (machine.Ready (g ∷ gs) f) h = let closed : length c.args.self.outer.items ≡ 0 = omega arith in absurd (none-open c.args.self.outer.items g gs h.outside closed)
returns-in-Ready c (machine.Held outer f p) h = absurd (let both : mode.Ready ≡ mode.Held = sym c.in-Ready.is ∙ h.at_mode in cc)
returns-in-Ready c (machine.Escape outer f) h = absurd (let both : mode.Ready ≡ mode.Escape = sym c.in-Ready.is ∙ h.at_mode in cc)
returns-in-Ready c (machine.Bracket outer f negated rs m) h = absurd (let both : mode.Ready ≡ mode.Bracket m = sym c.in-Ready.is ∙ h.reads.at_mode in cc)

pub returns-in_ok-join_piece-in-Held : goal.returns-in_ok-join_piece-in-Held
returns-in_ok-join_piece-in-Held c (machine.Held [] f p) h =
    let j = c.in_ok-join_piece-in-Held.ensures in
    c.end-in-Held.ensures mode.Held (machine.with_piece f p) (piece-reads c.args.self c.join_piece.new.self mode.Held [] f p h j.rest (j.made f p (outer_parts []) h.inside h.made))
returns-in_ok-join_piece-in-Held c (machine.Held (g ∷ gs) f p) h = let closed : length c.args.self.outer.items ≡ 0 = omega arith in absurd (none-open c.args.self.outer.items g gs h.outside closed)
returns-in_ok-join_piece-in-Held c (machine.Ready outer f) h = absurd (let both : mode.Held ≡ mode.Ready = sym c.in-Held.is ∙ h.at_mode in cc)
returns-in_ok-join_piece-in-Held c (machine.Escape outer f) h = absurd (let both : mode.Held ≡ mode.Escape = sym c.in-Held.is ∙ h.at_mode in cc)
returns-in_ok-join_piece-in-Held c (machine.Bracket outer f negated rs m) h = absurd (let both : mode.Held ≡ mode.Bracket m = sym c.in-Held.is ∙ h.reads.at_mode in cc)
