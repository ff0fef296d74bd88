use Rattle.std.proofs.Common.{◌≡◌, List, ℕ, Some, ap, sym, ◌∙◌, string_bytes}
use Rattle.std.specs.Str.{bytes_eq}
use Rattle.std.specs.Cmp.Lexicographic.{nat_list_cmp_total}
use Rattle.std.specs.FinMap.{get, get-from_entries}
use Rattle.std.specs.VecDeque.Iter.{deque_iter_rest}
use Rattle.sg_outside.specs.declared.file_log.File.{File}
use Rattle.sg_outside.proofs.FileSearch.{found, found-first, found-past, found-end}
use Rattle.sg_outside.proofs.file_log.FileLog.get.Goals as goal

pub loop-file-init : goal.loop-file-init
loop-file-init c =
    ap (λ m. get m c.args.name.now) (sym c.self.view_is)
    ∙ get-from_entries nat_list_cmp_total _ _
    ∙ ap (λ (files : List File). found c.args.name.now files) (sym c.into_iter-file-iterator.ensures.into_iter_gives.0)

pub returns-then-eq : goal.returns-then-eq
returns-then-eq c =
    let same : c.eq.result ≡ bytes_eq c.args.name.now (string_bytes c.in-Some.file.now.name) = cc in
    c.loop-file.invariant
    ∙ found-first c.args.name.now c.in-Some.file.now (deque_iter_rest c.next.new.self) (deque_iter_rest c.loop-file.file-iterator) c.eq.result c.in-Some.ensures.steps same c.if-eq.true
    ∙ ap (λ (bytes : List ℕ). Some bytes) (sym c.deref.ensures.value)

pub loop-file-preserved : goal.loop-file-preserved
loop-file-preserved c =
    let same : c.eq.result ≡ bytes_eq c.args.name.now (string_bytes c.in-Some.file.now.name) = cc in
    c.loop-file.invariant
    ∙ found-past c.args.name.now c.in-Some.file.now (deque_iter_rest c.next.new.self) (deque_iter_rest c.loop-file.file-iterator) c.eq.result c.in-Some.ensures.steps same c.if-eq.false

pub returns : goal.returns
returns c = c.loop-file.invariant ∙ found-end c.args.name.now (deque_iter_rest c.loop-file.file-iterator) c.in-None.ensures.steps.0
