use Rattle.std.proofs.Common.{◌≡◌, inr, sym, subst}
use Rattle.sg_kinds.specs.declared.spec.Spec.{Spec}
use Rattle.sg_editor.specs.Ask.{Readers, AreReaders}
use Rattle.sg_editor.specs.Editing.{Editing, spec_in, width_in, height_in, session_of}
use Rattle.sg_editor.specs.Session.{Session, start}
use Rattle.sg_output.specs.Session.{Desk, desk}
use Rattle.sg_output.specs.declared.status.Status.{Status}
use Rattle.sg_live.specs.DeskView.{desk_in}
use Rattle.sg_live.specs.JobView.{job_of}
use Rattle.sg_live.specs.Lived.{IsSession}
use Rattle.sg_live.specs.Outside.{Outside}
use Rattle.sg_live.specs.Turns.{Talked}
use Rattle.sg_live.specs.Words.{Job}
use Rattle.sg_live.proofs.living.begin.Goals as goal

-- the turns of an editor that was just made are those of a session
began : (j : Job) (spec : Spec) (e : Editing) (old new : Outside) (status : Status) → spec_in e ≡ spec → width_in e ≡ j.width → height_in e ≡ j.height
    → session_of e ≡ start → ((r : Readers) → AreReaders (spec_in e) r → Talked (desk_in e r) (session_of e) old status new) → IsSession j spec old status new
began j spec e old new status is wide high fresh talked = inr (λ r right.
    let same : desk_in e r ≡ desk spec j.width j.height r = λ i. desk (is i) (wide i) (high i) r in
    subst (λ (d : Desk). Talked d start old status new) same
    (subst (λ (s : Session). Talked (desk_in e r) s old status new) fresh
    (talked r (subst (λ (p : Spec). AreReaders p r) (sym is) right))))

pub returns : goal.returns
returns g c = began (job_of c.args.asked.now) c.args.loaded.spec c.in-Ok-new.editor _ _ _ c.in-Ok-new.ensures.spec c.in-Ok-new.ensures.width
    c.in-Ok-new.ensures.height c.in-Ok-new.ensures.session c.talk.ensures
