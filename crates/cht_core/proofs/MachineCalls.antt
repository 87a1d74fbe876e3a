-- A step of a call, with the work and the grace that its seat has beside it.
use Rattle.std.proofs.Common.{ℕ, List}
use Rattle.atomic_step.specs.Turn.{Row}
use Rattle.call_machine.specs.declared.draw.DrawStage.TheVariants as draw
use Rattle.call_machine.specs.declared.enter.EnterStage.TheVariants as enter
use Rattle.call_machine.specs.declared.find.FindStage.TheVariants as find
use Rattle.call_machine.specs.declared.handle.HandleStage.TheVariants as handle
use Rattle.call_machine.specs.declared.insert.InsertStage.TheVariants as insert
use Rattle.call_machine.specs.declared.leave.LeaveStage.TheVariants as leave
use Rattle.call_machine.specs.declared.node.NodeStage.TheVariants as node
use Rattle.call_machine.specs.declared.read.ReadStage.TheVariants as read
use Rattle.call_machine.specs.declared.stage.Along.{Along}
use Rattle.call_machine.specs.declared.stage.Asked.{Asked}
use Rattle.call_machine.specs.declared.stage.CallStage.{CallStage}
use Rattle.call_machine.specs.declared.stage.CallStage.TheVariants as stage
use Rattle.call_machine.specs.Calls.{turn_at}
use Rattle.cht_core.specs.Backs.{IsOfTry}
use Rattle.cht_core.specs.Flow.{Flow}
use Rattle.cht_core.specs.KnowsCall.{KnowsCall}
use Rattle.cht_core.specs.Memory.{Memory}
use Rattle.cht_core.specs.Past.{Past}
use Rattle.cht_core.proofs.Turns.{IfMakes}

-- the steps of a call leave the works of its seat alone
pub calls_try : (m : Memory) (p : Past) (f : Flow) (i load : ℕ) (passed : List ℕ) (q : Asked) (w : Along) (s : CallStage) → KnowsCall m p f i load passed q w s
    → IfMakes (λ (does : Row (Along × CallStage)). IsOfTry p.now i does.step) (turn_at q w s)
calls_try m p f i load passed q w (stage.Answered a) h = tt
calls_try m p f i load passed q w (stage.Draw draw.Load) h = tt
calls_try m p f i load passed q w (stage.Draw draw.Add) h = tt
calls_try m p f i load passed q w (stage.Find (find.Enter enter.LoadCounter)) h = tt
calls_try m p f i load passed q w (stage.Find (find.Enter (enter.OpenSection c))) h = tt
calls_try m p f i load passed q w (stage.Find find.LoadLevel) h = tt
calls_try m p f i load passed q w (stage.Find find.LoadHead) h = tt
calls_try m p f i load passed q w (stage.Find find.LoadNewLevel) h = tt
calls_try m p f i load passed q w (stage.Find find.LoadNewHead) h = tt
calls_try m p f i load passed q w (stage.Node (node.Meta x)) h = tt
calls_try m p f i load passed q w (stage.Node (node.Text x at)) h = tt
calls_try m p f i load passed q w (stage.Node (node.Count x)) h = tt
calls_try m p f i load passed q w (stage.Node (node.Link x)) h = tt
calls_try m p f i load passed q w (stage.Node (node.Take x count)) h = tt
calls_try m p f i load passed q w (stage.Insert (insert.Claim x tried)) h = tt
calls_try m p f i load passed q w (stage.Insert (insert.OwnCount x)) h = tt
calls_try m p f i load passed q w (stage.Insert (insert.PutMeta x)) h = tt
calls_try m p f i load passed q w (stage.Insert (insert.PutText x at)) h = tt
calls_try m p f i load passed q w (stage.Insert (insert.PutLink x)) h = tt
calls_try m p f i load passed q w (stage.Insert (insert.PutCount x)) h = tt
calls_try m p f i load passed q w (stage.Insert (insert.Create x)) h = tt
calls_try m p f i load passed q w (stage.Leave (leave.UndoCount x after)) h = tt
calls_try m p f i load passed q w (stage.Leave (leave.UndoClaim x after)) h = h.0.1
calls_try m p f i load passed q w (stage.Leave (leave.Close after)) h = tt
calls_try m p f i load passed q w (stage.Handle (handle.Count change)) h = tt
calls_try m p f i load passed q w (stage.Handle (handle.Exchange change count)) h = tt
calls_try m p f i load passed q w (stage.Read (read.Enter enter.LoadCounter)) h = tt
calls_try m p f i load passed q w (stage.Read (read.Enter (enter.OpenSection c))) h = tt
calls_try m p f i load passed q w (stage.Read read.Count) h = tt
calls_try m p f i load passed q w (stage.Read read.Meta) h = tt
calls_try m p f i load passed q w (stage.Read (read.Text at len)) h = tt
