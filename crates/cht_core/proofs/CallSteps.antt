-- Each stage of a call: the table backs its step, and the next stage knows what it needs.
use Rattle.std.proofs.Common.{◌≡◌, ℕ, ◌+◌, ◌<◌, ◌^◌, List, [], None}
use Rattle.table_shape.specs.declared.place.Place.TheVariants as place
use Rattle.atomic_step.specs.Event.{event_of}
use Rattle.atomic_step.specs.SoundStep.{IsSoundStep, IsSoundPlan}
use Rattle.atomic_step.specs.Turn.{Row}
use Rattle.call_machine.specs.declared.enter.EnterStage.TheVariants as enter
use Rattle.call_machine.specs.declared.handle.HandleStage.{HandleStage}
use Rattle.call_machine.specs.declared.handle.HandleStage.TheVariants as handle
use Rattle.call_machine.specs.declared.insert.InsertStage.{InsertStage}
use Rattle.call_machine.specs.declared.read.ReadStage.{ReadStage}
use Rattle.call_machine.specs.declared.read.ReadStage.TheVariants as read
use Rattle.call_machine.specs.declared.stage.Along.{Along}
use Rattle.call_machine.specs.declared.stage.Asked.{Asked}
use Rattle.call_machine.specs.declared.stage.CallStage.{CallStage}
use Rattle.call_machine.specs.declared.stage.CallStage.TheVariants as stage
use Rattle.call_machine.specs.Calls.{turn_at, plan_at}
use Rattle.call_machine.specs.Handle.{handle_row}
use Rattle.call_machine.specs.Insert.{insert_row}
use Rattle.call_machine.specs.Read.{read_row}
use Rattle.call_machine.specs.SoundCall.{HasRoom, HasSoundInsert, HasSoundStage, IsSoundAsked}
use Rattle.cht_core.specs.declared.table.Table.{Table}
use Rattle.cht_core.specs.Backs.{Backs}
use Rattle.cht_core.specs.Flow.{Flow, flow_after}
use Rattle.cht_core.specs.KnowsCall.{KnowsStage, KnowsCall}
use Rattle.cht_core.specs.Memory.{Memory, IsMade, found}
use Rattle.cht_core.specs.Past.{Past, told}
use Rattle.cht_core.specs.TableState.{IsTable}
use Rattle.cht_core.proofs.CallTurns.{Serves}
use Rattle.cht_core.proofs.FindStages.{find_serves}
use Rattle.cht_core.proofs.HandleStages.{handle_backs, handle_next}
use Rattle.cht_core.proofs.InsertBacks.{insert_backs}
use Rattle.cht_core.proofs.InsertStages.{insert_call_knows}
use Rattle.cht_core.proofs.LeaveStages.{leave_serves, draw_serves}
use Rattle.cht_core.proofs.NodeStages.{node_serves}
use Rattle.cht_core.proofs.ReadStages.{read_backs, read_next}
use Rattle.cht_core.proofs.Ties.{IsAskedOf}
use Rattle.cht_core.proofs.Turns.{IfMakes}

module _ (t : Table) (m : Memory) (p : Past) (f : Flow) (table : IsTable t m p f) (i : ℕ) (inside : i < t.shape.seats) (load : ℕ) (passed : List ℕ) (q : Asked) (w : Along) (asked : IsAskedOf t p.now i q) (room : HasRoom q.shape q.text) where
  insert_serves : (s : InsertStage) → IsSoundStep t.shape i (insert_row q w s).step → HasSoundInsert q.shape q.text w.kept s → KnowsCall m p f i load passed q w (stage.Insert s)
      → Serves t m p f i load passed q (insert_row q w s)
  insert_serves s sound has h =
      let row : Row (Along × CallStage) = insert_row q w s in
      let backs : Backs t m p f i q.text row.step = insert_backs t m p f i load passed q w asked room s h.0 in
      record {
        backs = backs;
        leads = λ m' made went. insert_call_knows t m m' p f i load passed q w s table.tidy h has made went;
      }

  -- a call by handle, and the reading of a text
  handle_serves : (s : HandleStage) → KnowsCall m p f i load passed q w (stage.Handle s) → Serves t m p f i load passed q (handle_row q w s)
  handle_serves (handle.Count change) h = record {
    backs = handle_backs t m p f i q w (handle.Count change) asked h.0;
    leads = λ m' made went. (handle_next t m m' p f i load passed q w table asked inside (handle.Count change) h.0, h.1);
  }
  handle_serves (handle.Exchange change count) h = record {
    backs = handle_backs t m p f i q w (handle.Exchange change count) asked h.0;
    leads = λ m' made went. (handle_next t m m' p f i load passed q w table asked inside (handle.Exchange change count) h.0, h.1);
  }

  read_knows : w.kept ≡ None → (s : ReadStage) (m' : Memory) → IsMade (read_row q w s).step m m' → KnowsCall m p f i load passed q w (stage.Read s)
      → KnowsStage m' (told p i (event_of q.text (read_row q w s).step (found (read_row q w s).step m))) (flow_after p.now f i q.text (read_row q w s).step (found (read_row q w s).step m)) i load passed q
      ((read_row q w s).next (found (read_row q w s).step m)).0 ((read_row q w s).next (found (read_row q w s).step m)).1
  read_knows kept s m' made h = read_next t m m' p f i load passed q w table asked inside kept s made h.0

  read_serves : w.kept ≡ None → (s : ReadStage) → KnowsCall m p f i load passed q w (stage.Read s) → Serves t m p f i load passed q (read_row q w s)
  read_serves kept (read.Enter enter.LoadCounter) h =
      record { backs = read_backs t m p f i q w q.kind (read.Enter enter.LoadCounter) h.0; leads = λ m' made went. (read_knows kept (read.Enter enter.LoadCounter) m' made h, h.1) }
  read_serves kept (read.Enter (enter.OpenSection c)) h =
      record { backs = read_backs t m p f i q w q.kind (read.Enter (enter.OpenSection c)) h.0; leads = λ m' made went. (read_next t m m' p f i load [] q w table asked inside kept (read.Enter (enter.OpenSection c)) made h.0, h.1) }
  read_serves kept read.Count h = record { backs = read_backs t m p f i q w q.kind read.Count h.0; leads = λ m' made went. (read_knows kept read.Count m' made h, h.1) }
  read_serves kept read.Meta h = record { backs = read_backs t m p f i q w q.kind read.Meta h.0; leads = λ m' made went. (read_knows kept read.Meta m' made h, h.1) }
  read_serves kept (read.Text at len) h = record { backs = read_backs t m p f i q w q.kind (read.Text at len) h.0; leads = λ m' made went. (read_knows kept (read.Text at len) m' made h, h.1) }

  -- the row of each stage that makes one
  pub call_serves : IsSoundAsked q → (s : CallStage) → m place.Draws + 1 < 2 ^ 64 → IsSoundPlan t.shape i (plan_at q w s) → HasSoundStage q w s → KnowsCall m p f i load passed q w s
      → IfMakes (Serves t m p f i load passed q) (turn_at q w s)
  call_serves sane (stage.Answered a) small sound has h = tt
  call_serves sane (stage.Draw s) small sound has h = draw_serves t m p f i load passed q w s small h
  call_serves sane (stage.Find s) small sound has h = find_serves t m p f table i load q w asked passed s h
  call_serves sane (stage.Node s) small sound has h = node_serves t m p f table i load passed q w asked sane s has.1 h
  call_serves sane (stage.Insert s) small sound has h = insert_serves s sound has.1 h
  call_serves sane (stage.Leave s) small sound has h = leave_serves t m p f i load passed q w s h
  call_serves sane (stage.Handle s) small sound has h = handle_serves s h
  call_serves sane (stage.Read s) small sound has h = read_serves has.0 s h
