-- The bus's octet: a telegram's data goes into the fill buffer that its header names, as it comes.
use Rattle.std.specs.Prelude.{ℕ, ◌+◌, Bool, true, false, cond, List, eqb, ltb, get_or, Option, Some, None}
use Rattle.buffers.specs.Roles.{fill_of}
use Rattle.octets.specs.Part.{stored_in}
use Rattle.telegram.specs.declared.reader.Reader.{Reader}
use Rattle.telegram.specs.declared.reader.Status.{Status}
use Rattle.telegram.specs.declared.reader.Status.TheVariants.{Fresh, Inside, Complete, Broken}
use Rattle.telegram.specs.Reading.{off, reader_after, status, datum_of}
use Rattle.state.specs.declared.state.Incoming.{Incoming}
use Rattle.state.specs.declared.state.State.{State}
use Rattle.state.specs.Layout.{outputs_at, parameters_at, configuration_at}
use Rattle.rules.specs.declared.request.Request.{Request}
use Rattle.rules.specs.declared.request.Data.{Data}
use Rattle.rules.specs.declared.request.Prm.{Prm}
use Rattle.rules.specs.declared.outcome.Outcome.{Outcome}
use Rattle.rules.specs.Requests.{master_of}
use Rattle.rules.specs.Services.{outcome_by}
use Rattle.state.specs.With.{with_incoming, with_reply}
use Rattle.steps.specs.Stepped.{Stepped, unchanged}
use Rattle.steps.specs.Line.{begun}
use Rattle.steps.specs.Outcome.{occupied, carried, settle}
use Rattle.state.specs.Start.{no_reply}
use Rattle.steps.specs.Replies.{reply_for}

-- data octet k goes into the fill buffer of the set that the header names: by the header alone, since user calls may change the
-- control part while the telegram is coming
abbrev pub stored_data : State → List ℕ → ℕ → ℕ → List ℕ
stored_data s m k b =
    cond (ltb s.incoming.reader.da 128)
    (stored_in m (outputs_at s.setup (fill_of s.outputs.set.place)) s.setup.output_len k b)
    (cond (eqb s.incoming.reader.dsap 61)
    (stored_in m (parameters_at s.setup (fill_of s.parameters.set.place)) s.setup.parameter_len k b)
    (cond (eqb s.incoming.reader.dsap 62)
    (stored_in m (configuration_at s.setup (fill_of s.configuration.set.place)) s.setup.configuration_len k b)
    m))

-- the first two data octets are kept in the state, for Global_Control
abbrev pub kept_octets : Incoming → Reader → ℕ → ℕ → Incoming
kept_octets i r k b = record { reader = r; first = cond (eqb k 0) b i.first; second = cond (eqb k 1) b i.second }

-- the reader goes on; the octets kept stay
abbrev pub read_on : Incoming → Reader → Incoming
read_on i r = record { reader = r; first = i.first; second = i.second }

-- nothing else of the state changes
abbrev pub read_by : State → Reader → State
read_by s r = with_incoming s (read_on s.incoming r)

-- an inner octet, by what the reader told of it before
abbrev pub stored_as : Option ℕ → State → List ℕ → Reader → ℕ → Stepped
stored_as None s m r b =
    record { state = read_by s r; memory = m }
stored_as (Some k) s m r b = record { state = with_incoming s (kept_octets s.incoming r k b); memory = stored_data s m k b }

-- the header of the telegram that the reader has read
abbrev pub request_by : Reader → Request
request_by r =
    record {
      kind = r.kind;
      da = r.da;
      sa = r.sa;
      fc = r.fc;
      dsap = r.dsap;
      ssap = r.ssap;
      count = r.count;
    }

-- the octets of Set_Prm from a place on; with fewer than 8 data octets octet 7 is whatever was left there
abbrev pub prm_at : List ℕ → ℕ → Prm
prm_at m a =
    record {
      status = get_or m a 0;
      factor1 = get_or m (a + 1) 0;
      factor2 = get_or m (a + 2) 0;
      ident_high = get_or m (a + 4) 0;
      ident_low = get_or m (a + 5) 0;
      group = get_or m (a + 6) 0;
      base = get_or m (a + 7) 0;
    }

-- in the parameters' fill buffer
abbrev pub prm_in : State → List ℕ → Prm
prm_in s m = prm_at m (parameters_at s.setup (fill_of s.parameters.set.place))

-- all data octets that the rules look at
abbrev pub data_in : State → List ℕ → Data
data_in s m = record { prm = prm_in s m; first = s.incoming.first; second = s.incoming.second }

-- what comes of a telegram
unfoldable pub outcome_of : State → List ℕ → Request → Outcome
outcome_of s m r = outcome_by s.setup s.control (occupied s) r (data_in s m)

-- carried out, and the reply drawn
unfoldable pub answered : State → List ℕ → Outcome → Request → Stepped
answered s m o r =
    record {
      state = with_reply (carried s m o r.count).state (reply_for o.drawn (carried s m o r.count).state (master_of r));
      memory = (carried s m o r.count).memory;
    }

-- a last octet applies Services; octets are ignored until a gap
abbrev pub completed : State → List ℕ → Reader → Stepped
completed s m r = answered (read_by s r) m (outcome_of (read_by s r) m (request_by r)) (request_by r)

-- the line settled after a step
abbrev pub settle_after : Stepped → Stepped
settle_after r = settle r.state r.memory

-- a beginning drops an unfinished reply
abbrev pub beginning : State → Reader → State
beginning s r = with_reply (read_by s r) no_reply

-- by what the octets are with this one; r is the reader after it
abbrev pub heard_as : Status → State → List ℕ → Reader → ℕ → Stepped
heard_as Fresh s m r b = unchanged s m
heard_as Inside s m r b =
    cond (begun s) (stored_as (datum_of s.incoming.reader) s m r b) (settle (beginning s r) m)
heard_as Complete s m r b = settle_after (completed s m r)
heard_as Broken s m r b = settle (read_by s off) m

-- octets are ignored until a gap after a complete telegram, and after one broken off
abbrev pub is_ignored : Status → Bool
is_ignored Fresh = false
is_ignored Inside = false
is_ignored Complete = true
is_ignored Broken = true

-- the bus's octet
unfoldable pub heard : State → List ℕ → ℕ → Bool → Stepped
heard s m b bad =
    cond (is_ignored (status s.incoming.reader)) (unchanged s m)
    (heard_as (status (reader_after s.incoming.reader b bad)) s m (reader_after s.incoming.reader b bad) b)
