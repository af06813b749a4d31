-- The lists that stand in place of buffers (document 01, The ledger; document 02, Req 01), and what the rules do to them.
use Rattle.std.specs.Prelude.{ℕ, Bool, true, false, cond, List, [], ◌∷◌, set, replicate}

-- a list with something in it
abbrev pub some : List ℕ → Bool
some [] = false
some (x ∷ xs) = true

-- the outputs held and next, and those held back, each of which may be a list without an octet: that one is there is told by the marks.
-- fresh: next is new; zeros: what was published last were zeros by the station;
-- withheld: something is held back
pub record Outputs : Type 0 where
  pub held : List ℕ
  pub next : List ℕ
  pub back : List ℕ
  pub fresh : Bool
  pub zeros : Bool
  pub withheld : Bool

-- publishing puts outputs in next
abbrev pub published : Outputs → List ℕ → Outputs
published o ds = record { held = o.held; next = ds; back = o.back; fresh = true; zeros = false; withheld = o.withheld }

-- these outputs are held back, in place of those that were
abbrev pub held_back : Outputs → List ℕ → Outputs
held_back o ds = record { held = o.held; next = o.next; back = ds; fresh = o.fresh; zeros = o.zeros; withheld = true }

-- nothing is held back any more
abbrev pub emptied : Outputs → Outputs
emptied o = record { held = o.held; next = o.next; back = []; fresh = o.fresh; zeros = o.zeros; withheld = false }

-- what is held back is published
abbrev pub released : Outputs → Outputs
released o = emptied (published o o.back)

-- the station publishes n zeros
abbrev pub published_zeros : Outputs → ℕ → Outputs
published_zeros o n =
    record { held = o.held; next = replicate n 0; back = o.back; fresh = true; zeros = true; withheld = o.withheld }

-- take changes next and held
abbrev pub taken_outputs : Outputs → Outputs
taken_outputs o =
    record { held = o.next; next = o.held; back = o.back; fresh = false; zeros = o.zeros; withheld = o.withheld }

-- where next is new
abbrev pub took_new : Outputs → Outputs
took_new o = cond o.fresh (taken_outputs o) o

-- the inputs that the controller sends (fill), those that are next, and those that the user holds
pub record Inputs : Type 0 where
  pub sending : List ℕ
  pub next : List ℕ
  pub held : List ℕ
  pub fresh : Bool

-- hand over: held and next change, next is new
abbrev pub handed_over : Inputs → Inputs
handed_over i = record { sending = i.sending; next = i.held; held = i.next; fresh = true }

-- if next inputs are new, fill and next change
abbrev pub brought : Inputs → Inputs
brought i = cond i.fresh (record { sending = i.next; next = i.sending; held = i.held; fresh = false }) i

-- octet n of the inputs held is written
abbrev pub written_input : Inputs → ℕ → ℕ → Inputs
written_input i n x = record { sending = i.sending; next = i.next; held = set i.held n x; fresh = i.fresh }

-- a set of parameters or of configuration that is shown, and one that waits; the empty list where there is none
pub record Sets : Type 0 where
  pub shown : List ℕ
  pub waiting : List ℕ

-- a set is shown if none is open; otherwise it waits, replacing one that waits
abbrev pub received_set : Sets → List ℕ → Sets
received_set s ds = cond (some s.shown) (record { shown = s.shown; waiting = ds }) (record { shown = ds; waiting = s.waiting })

-- the newer set is shown instead
abbrev pub advanced : Sets → Sets
advanced s = record { shown = s.waiting; waiting = [] }

-- no set is shown, and none waits
abbrev pub no_sets : Sets
no_sets = record { shown = []; waiting = [] }

-- the controller's diagnosis octets and the user's
pub record Diagnoses : Type 0 where
  pub own : List ℕ
  pub user : List ℕ

-- the two buffers change
abbrev pub exchanged_diagnoses : Diagnoses → Diagnoses
exchanged_diagnoses d = record { own = d.user; user = d.own }

-- octet n of the user's is written
abbrev pub written_diagnosis : Diagnoses → ℕ → ℕ → Diagnoses
written_diagnosis d n x = record { own = d.own; user = set d.user n x }

-- all of them
pub record Buffers : Type 0 where
  pub outputs : Outputs
  pub inputs : Inputs
  pub parameters : Sets
  pub configuration : Sets
  pub diagnosis : Diagnoses

-- the lists with one field changed
abbrev pub with_outputs : Buffers → Outputs → Buffers
with_outputs b x =
    record {
      outputs = x;
      inputs = b.inputs;
      parameters = b.parameters;
      configuration = b.configuration;
      diagnosis = b.diagnosis;
    }

abbrev pub with_inputs : Buffers → Inputs → Buffers
with_inputs b x =
    record {
      outputs = b.outputs;
      inputs = x;
      parameters = b.parameters;
      configuration = b.configuration;
      diagnosis = b.diagnosis;
    }

abbrev pub with_diagnoses : Buffers → Diagnoses → Buffers
with_diagnoses b x =
    record {
      outputs = b.outputs;
      inputs = b.inputs;
      parameters = b.parameters;
      configuration = b.configuration;
      diagnosis = x;
    }
