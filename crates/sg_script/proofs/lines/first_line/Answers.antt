use Rattle.std.proofs.Common.{◌≡◌, sym, ◌∙◌, ap, arith, ◌+◌, ◌-◌, ◌∷◌, length, take, drop, length-drop}
use Rattle.std.proofs.lemmas.List.{take_all}
use Rattle.std.specs.Str.Lines.{lines}
use Rattle.sg_script.proofs.FirstLines.{first_line_ends}
use Rattle.sg_script.proofs.lines.first_line.Goals as goal

pub returns-in-Some-clause-line : goal.returns-in-Some-clause-line
returns-in-Some-clause-line c =
    let bytes = c.args.bytes.now in
    let n = c.in-Some.end in
    let h = first_line_ends bytes n (sym c.in-Some.ensures) in
    let long = length-drop (n + 1) bytes in
    let rest : take (length bytes - (n + 1)) (drop (n + 1) bytes) ≡ drop (n + 1) bytes = take_all (length bytes - (n + 1)) (drop (n + 1) bytes) (omega (arith, long)) in
    rw rest (h.1 ∙ ap (λ l. l ∷ lines (drop (n + 1) bytes)) (sym c.without_return.ensures))
