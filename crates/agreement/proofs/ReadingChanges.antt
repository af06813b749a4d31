-- A step that changes only the reading and a fill buffer that data goes into: all other parts stay related.
use Prim.Native.Nat.{ℕ, ◌<◌}
use native.Mathlib.Omega.{arith}
use mathlib.Core.Path.{◌≡◌, refl, sym, ◌∙◌}
use mathlib.Core.Bool.{Bool, true, false, cond}
use mathlib.Core.List.{List}
use lib.ListN.{get_or}
use lib.Dec.{ltb, eqb}
use Rattle.buffers.specs.Roles.{fill_of, next_of, held_of, Permutation}
use Rattle.buffers.specs.Roles as role
use Rattle.octets.specs.Part.{stored_in}
use Rattle.state.specs.declared.setup.Setup.{Setup}
use Rattle.state.specs.declared.state.Sets as station-sets
use Rattle.state.specs.declared.state.Incoming.{Incoming}
use Rattle.state.specs.declared.state.State.{State}
use Rattle.state.specs.Layout.{output_row, input_row, parameter_row, configuration_row, diagnosis_row, get_cfg_row, row_count, row_length, start_of}
use Rattle.ledger.specs.Lists.{Sets}
use Rattle.ledger.specs.Ledger.{Line, Ledger, with_line}
use Rattle.steps.specs.Safe.{Safe}
use Rattle.state.specs.With.{with_incoming}
use Rattle.steps.specs.Reading.{stored_data}
use Rattle.agreement.proofs.Relation.{SetsAgree, ReadingAgrees, ReplyAgrees, Agrees}
use Rattle.steps.proofs.KeepsSafe.{safe_same, safe_incoming}
use Rattle.agreement.proofs.OtherBuffersStay.{Elsewhere, same_elsewhere, inputs_stay, diagnoses_stay, slice_stays, sets_stay, outputs_stay}
use Rattle.agreement.proofs.Steady.{SetsFit, Steady}
use Rattle.agreement.proofs.DataOctetStored.{stored_elsewhere}

-- buffer i of row a is the fill buffer of a row that data goes into
pub record Filling (s : State) (a i : ℕ) : Type 0 where
  pub of_outputs : a ≡ output_row → i ≡ fill_of s.outputs.set.place
  pub of_parameters : a ≡ parameter_row → i ≡ fill_of s.parameters.set.place
  pub of_configuration : a ≡ configuration_row → i ≡ fill_of s.configuration.set.place
  pub no_inputs : a ≡ input_row → ⊥
  pub no_diagnosis : a ≡ diagnosis_row → ⊥
  pub no_slice : a ≡ get_cfg_row → ⊥

-- the memory changed in such a buffer alone
pub record Beside (s : State) (m m' : List ℕ) : Type 0 where
  pub row : ℕ
  pub place : ℕ
  pub filling : Filling s row place
  pub elsewhere : Elsewhere s.setup row place m m'

fills_outputs : (s : State) → Filling s output_row (fill_of s.outputs.set.place)
fills_outputs s = omega arith

fills_parameters : (s : State) → Filling s parameter_row (fill_of s.parameters.set.place)
fills_parameters s = omega arith

fills_configuration : (s : State) → Filling s configuration_row (fill_of s.configuration.set.place)
fills_configuration s = omega arith

pub nowhere : (s : State) (m : List ℕ) → Beside s m m
nowhere s m = record { row = output_row; place = fill_of s.outputs.set.place; filling = fills_outputs s; elsewhere = same_elsewhere }

-- a data octet that comes is stored in one of them, or nowhere
pub data_beside : (s : State) (m : List ℕ) (k b : ℕ) → Safe s m → Beside s m (stored_data s m k b)
data_beside s m k b f =
    go (ltb s.incoming.reader.da 128) (eqb s.incoming.reader.dsap 61) (eqb s.incoming.reader.dsap 62)
  where
    into : (a i : ℕ) → i < row_count a → Filling s a i → Beside s m (stored_in m (start_of s.setup a i) (row_length s.setup a) k b)
    into a i h w = record { row = a; place = i; filling = w; elsewhere = stored_elsewhere s.setup m a i k b h }

    go : (p q t : Bool) → Beside s m
        (cond p (stored_in m (start_of s.setup output_row (fill_of s.outputs.set.place)) s.setup.output_len k b)
        (cond q (stored_in m (start_of s.setup parameter_row (fill_of s.parameters.set.place)) s.setup.parameter_len k b)
        (cond t (stored_in m (start_of s.setup configuration_row (fill_of s.configuration.set.place)) s.setup.configuration_len k b) m)))
    go true q t = into output_row (fill_of s.outputs.set.place) (f.outputs.within role.fill (omega arith)) (fills_outputs s)
    go false true t = into parameter_row (fill_of s.parameters.set.place) (f.parameters.within role.fill (omega arith)) (fills_parameters s)
    go false false true = into configuration_row (fill_of s.configuration.set.place) (f.configuration.within role.fill (omega arith)) (fills_configuration s)
    go false false false = nowhere s m

-- the sets shown and waiting are in the buffers held and next
sets_beside : {g : Setup} {a i : ℕ} {m m' : List ℕ} (e : Elsewhere g a i m m') (b : ℕ) (x : station-sets.Sets) (y : Sets) → row_count b ≡ 3 → Permutation 3 x.set.place
    → (a ≡ b → i ≡ fill_of x.set.place) → SetsFit (row_length g b) y
    → SetsAgree (start_of g b) m x y → SetsAgree (start_of g b) m' x y
sets_beside e b x y c p f u r =
    let v = u.shown in
    let o = u.waiting in
    let k = r.shown_count in
    let w = r.waiting_count in
    sets_stay
    (e.other b (held_of x.set.place) x.shown (rw c (p.within role.held (omega arith))) (omega arith) (λ z h. p.apart role.fill role.held (omega arith) (omega arith) (λ z. omega arith) (sym (f z) ∙ h)))
    (e.other b (next_of x.set.place) x.waiting (rw c (p.within role.next (omega arith))) (omega arith) (λ z h. p.apart role.fill role.next (omega arith) (omega arith) (λ z. omega arith) (sym (f z) ∙ h)))
    r

-- all parts but reading and reply agree as before
pub reread : {s : State} {m m' : List ℕ} {l : Ledger} (i : Incoming) (n : Line) → Steady l → Beside s m m' → Agrees s m l
    → ReadingAgrees (with_incoming s i) m' n → (ds : List ℕ) × ReplyAgrees (with_incoming s i) m' n ds → Agrees (with_incoming s i) m' (with_line l n)
reread {s} {m} {m'} {l} i n d w r reading reply =
    let f = r.safe in
    let e = w.elsewhere in
    let h = w.filling in
    let lengths = r.setup in
    let k = s.setup.output_len in
    record {
      setup = r.setup;
      control = r.control;
      outputs =
          outputs_stay (λ j hj hk. e.other output_row (get_or s.outputs.set.place j 0) k (f.outputs.within j hk) (omega arith)
          (λ z v. f.outputs.apart role.fill j (omega arith) hk (λ q. omega arith) (sym (h.of_outputs z) ∙ v))) r.outputs;
      inputs = inputs_stay e f.inputs h.no_inputs r.inputs;
      parameters =
          sets_beside e parameter_row s.parameters l.buffers.parameters refl f.parameters h.of_parameters
          (rw lengths d.order.parameters_fit) r.parameters;
      configuration =
          sets_beside e configuration_row s.configuration l.buffers.configuration refl f.configuration h.of_configuration
          (rw lengths d.order.configuration_fit) r.configuration;
      diagnosis = diagnoses_stay e h.no_diagnosis r.diagnosis;
      slice = slice_stays e h.no_slice ∙ r.slice;
      reading = reading;
      reply = reply;
      safe = safe_incoming s m' i (safe_same s m m' e.long e.rows f);
    }
