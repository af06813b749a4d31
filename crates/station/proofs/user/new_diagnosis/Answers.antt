-- `station::user::new_diagnosis` meets its contract.
use Rattle.std.proofs.Common.{not, ap, refl}
use Rattle.state.proofs.Damage.{fronted_same}
use Rattle.station.proofs.UserOverMemory.{delays_diagnosis, changes_diagnosis}
use Rattle.station.proofs.user.new_diagnosis.Goals as goal

pub returns-then-diagnosis_leaves_in : goal.returns-then-diagnosis_leaves_in
returns-then-diagnosis_leaves_in c = delays_diagnosis _ _ c.control-control.ensures c.setup-setup.ensures c.from.ensures _ _ (ap not c.if-not-count-from.false)
    c.is_delayed.ensures
    c.if-is_delayed.false
    c.diagnosis_leaves_in.ensures
    c.if-diagnosis_leaves_in.true
    c.delaying.ensures
    (c.save_control.ensures _ (fronted_same _ _ c.requires))

pub returns : goal.returns
returns c = changes_diagnosis _ _ c.control-control.ensures c.setup-setup.ensures c.from.ensures _ _ (ap not c.if-not-count-from.false)
    c.is_delayed.ensures
    c.if-is_delayed.false
    c.diagnosis_leaves_in.ensures
    c.if-diagnosis_leaves_in.false
    c.diagnosed.ensures
    (c.change_diagnosis.ensures _ refl (fronted_same _ _ c.requires))
