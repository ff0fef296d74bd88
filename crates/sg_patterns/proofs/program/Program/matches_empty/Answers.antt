use Rattle.std.proofs.Common.{◌≡◌, [], ap, sym, ◌∙◌}
use Rattle.sg_patterns.specs.Trees.{empty_of}
use Rattle.sg_patterns.specs.Flags.{flag_at}
use Rattle.sg_patterns.proofs.Matching.{empty-matches, matches-empty}
use Rattle.sg_patterns.proofs.LongestSoFar.{empty-flag}
use Rattle.sg_patterns.proofs.program.Program.matches_empty.Goals as goal

pub returns : goal.returns
returns c p h =
    let prog = c.args.self.now in
    let read : c.flag.result ≡ flag_at prog.empties.items prog.root = c.flag.ensures ∙ ap (λ fs. flag_at fs prog.root) c.deref.ensures.value in
    let flag : c.flag.result ≡ empty_of p = read ∙ ap (flag_at prog.empties.items) (sym h.is_root) ∙ empty-flag prog h.tree h.stands ∙ ap empty_of h.is_pattern in
    (λ e. empty-matches p [] 0 (sym flag ∙ e), λ m. flag ∙ matches-empty p [] 0 m)
