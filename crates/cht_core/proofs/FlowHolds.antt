-- A flow with other holds: the table is as it should be where its ledger is, and a seat that holds no less knows what it knew.
use Rattle.std.proofs.Common.{◌≡◌, ℕ, ◌≤◌, List, Option, Some, None, IfSome, arith}
use Rattle.intern_log.specs.declared.event.Handle.{Handle}
use Rattle.intern_log.specs.declared.event.Kind.{Kind}
use Rattle.intern_log.specs.declared.event.Kind.TheVariants.{Counted, Weak}
use Rattle.text_words.specs.Hash.{hash_of}
use Rattle.atomic_step.specs.declared.count.Change.{Change}
use Rattle.atomic_step.specs.declared.count.Change.TheVariants.{Drop, Permanent, Kill}
use Rattle.call_machine.specs.declared.begin.BeginStage.{BeginStage}
use Rattle.call_machine.specs.declared.begin.BeginStage.TheVariants as begin
use Rattle.call_machine.specs.declared.begin.Left.{Left}
use Rattle.call_machine.specs.declared.begin.Left.TheVariants as left
use Rattle.call_machine.specs.declared.clean.CleanAlong.{CleanAlong}
use Rattle.call_machine.specs.declared.clean.CleanStage.{CleanStage}
use Rattle.call_machine.specs.declared.clean.CleanStage.TheVariants as clean
use Rattle.call_machine.specs.declared.find.FindStage.{FindStage}
use Rattle.call_machine.specs.declared.find.FindStage.TheVariants as find
use Rattle.call_machine.specs.declared.find.Walk.{Walk}
use Rattle.call_machine.specs.declared.grace.GraceStage.TheVariants as grace
use Rattle.call_machine.specs.declared.handle.HandleStage.{HandleStage}
use Rattle.call_machine.specs.declared.handle.HandleStage.TheVariants as handle
use Rattle.call_machine.specs.declared.insert.InsertStage.{InsertStage}
use Rattle.call_machine.specs.declared.insert.InsertStage.TheVariants as insert
use Rattle.call_machine.specs.declared.machine.Machine.{Machine}
use Rattle.call_machine.specs.declared.machine.Machine.TheVariants as machine
use Rattle.call_machine.specs.declared.node.NodeStage.{NodeStage}
use Rattle.call_machine.specs.declared.node.NodeStage.TheVariants as node
use Rattle.call_machine.specs.declared.pass.Cleaning.{Cleaning}
use Rattle.call_machine.specs.declared.pass.PassStage.{PassStage}
use Rattle.call_machine.specs.declared.pass.PassStage.TheVariants as pass
use Rattle.call_machine.specs.declared.read.ReadStage.{ReadStage}
use Rattle.call_machine.specs.declared.read.ReadStage.TheVariants as read
use Rattle.call_machine.specs.declared.stage.Along.{Along}
use Rattle.call_machine.specs.declared.stage.Asked.{Asked}
use Rattle.call_machine.specs.declared.stage.CallStage.{CallStage}
use Rattle.call_machine.specs.declared.stage.CallStage.TheVariants as stage
use Rattle.call_machine.specs.declared.sweep.Closing.{Closing}
use Rattle.call_machine.specs.declared.sweep.Closing.TheVariants as closing
use Rattle.call_machine.specs.declared.sweep.SweepAlong.{SweepAlong}
use Rattle.call_machine.specs.declared.sweep.SweepAsked.{SweepAsked}
use Rattle.call_machine.specs.declared.sweep.SweepStage.{SweepStage}
use Rattle.call_machine.specs.declared.sweep.SweepStage.TheVariants as sweep
use Rattle.call_machine.specs.declared.work.Work.{Work}
use Rattle.call_machine.specs.declared.work.Work.TheVariants as work
use Rattle.call_machine.specs.Poll.{work_left}
use Rattle.cht_core.specs.declared.seat.Seat.{Seat}
use Rattle.cht_core.specs.declared.seat.Seat.TheVariants as doing
use Rattle.cht_core.specs.declared.table.Table.{Table}
use Rattle.cht_core.specs.Chains.{Chains}
use Rattle.cht_core.specs.Flow.{Flow}
use Rattle.cht_core.specs.Heads.{Heads}
use Rattle.cht_core.specs.KnowsCall.{KnowsFind, KnowsNode, KnowsInsert, MayChange, KnowsHandle, KnowsRead, KnowsStage, AtNode, AtEnd}
use Rattle.cht_core.specs.KnowsResize.{Resizing, NoHead}
use Rattle.cht_core.specs.KnowsWork.{Locked, LeadsTo, IsAtNode, KnowsPass, KnowsCleaning, KnowsWork, KnowsClosing, KnowsSweep, KnowsLeft, KnowsBegin}
use Rattle.cht_core.specs.Ledger.{Balanced}
use Rattle.cht_core.specs.Memory.{Memory}
use Rattle.cht_core.specs.Past.{Past}
use Rattle.cht_core.specs.Search.{IsFit, Searched}
use Rattle.cht_core.specs.Stage.{Stage, Quiet}
use Rattle.cht_core.specs.TableState.{IsTable}
use Rattle.cht_core.specs.View.{View, KnowsMachine, Knows}
use Rattle.cht_core.proofs.ResizeHolds.{resize_with_holds}

module _ (m : Memory) (p : Past) (f : Flow) (holds : ℕ → Handle → ℕ) where
  -- the flow with these holds
  abbrev pub with_holds : Flow
  with_holds = record f { holds = holds }

  heads_with_holds : Heads m p.now f → Heads m p.now with_holds
  heads_with_holds heads = record {
    level = heads.level;
    new_level = heads.new_level;
    owner = heads.owner;
    paths = heads.paths;
    behind = heads.behind;
    held = heads.held;
    gone = heads.gone;
    pinned = heads.pinned;
  }

  chains_with_holds : Chains p.now f → Chains p.now with_holds
  chains_with_holds chains = record {
    on_linked = chains.on_linked;
    linked_on = chains.linked_on;
    once = chains.once;
    ranked = chains.ranked;
    bases = chains.bases;
    sides = chains.sides;
    loose = chains.loose;
    within = chains.within;
  }

  -- the table with other holds is as it should be where they are in balance
  pub table_with_holds : (t : Table) → IsTable t m p f → (t.kind ≡ Counted → Balanced t.shape.seats p.now.texts holds) → IsTable t m p with_holds
  table_with_holds t table balanced = record {
    shape = table.shape;
    tidy = table.tidy;
    words = table.words;
    slots = table.slots;
    sections = table.sections;
    heads = heads_with_holds table.heads;
    chains = chains_with_holds table.chains;
    clear = table.clear;
    idle = table.idle;
    whole = table.whole;
    row = table.row;
    named = table.named;
    ledger = balanced;
  }

  fit_with_holds : (since hash s : ℕ) → IsFit p.now f since hash s → IsFit p.now with_holds since hash s
  fit_with_holds since hash s fit = record { held = fit.held; near = fit.near; side = fit.side }

  searched_with_holds : (i : ℕ) (text : List ℕ) (hash row load : ℕ) (first : Option ℕ) (passed ahead : List ℕ) → Searched p.now f i text hash row load first passed ahead
      → Searched p.now with_holds i text hash row load first passed ahead
  searched_with_holds i text hash row load first passed ahead h = record {
    hashed = h.hashed;
    section = h.section;
    inside = h.inside;
    early = h.early;
    based = h.based;
    routed = h.routed;
    anchor = h.anchor;
    fit = λ s on. fit_with_holds h.section.place hash s (h.fit s on);
    once = h.once;
    apart = h.apart;
    been = λ s on. fit_with_holds h.section.place hash s (h.been s on);
    live = h.live;
  }

  find_with_holds : (i hash : ℕ) (walk : Walk) (s : FindStage) → KnowsFind m p.now f i hash walk s → KnowsFind m p.now with_holds i hash walk s
  find_with_holds i hash walk (find.Enter s) h = h
  find_with_holds i hash walk find.LoadLevel h = h
  find_with_holds i hash walk find.LoadHead h = h
  find_with_holds i hash walk find.LoadNewLevel h = h
  find_with_holds i hash walk find.LoadNewHead h = h

  module _ (i load : ℕ) (passed : List ℕ) (q : Asked) (w : Along) where
    at_node_with_holds : (s : ℕ) → AtNode m p.now f i load passed q w s → AtNode m p.now with_holds i load passed q w s
    at_node_with_holds s h = record {
      walking = record {
        ahead = h.walking.ahead;
        path = h.walking.path;
        searched = searched_with_holds i q.text (hash_of q.seed q.text) w.walk.row load _ passed h.walking.ahead h.walking.searched;
      };
      bucket = h.bucket;
      counted = h.counted;
      plain = h.plain;
    }

    at_end_with_holds : AtEnd p.now f i load passed q w → AtEnd p.now with_holds i load passed q w
    at_end_with_holds h = record {
      searched = searched_with_holds i q.text (hash_of q.seed q.text) w.walk.row load _ passed _ h.searched;
      bucket = h.bucket;
      open_head = h.open_head;
      plain = h.plain;
    }

    node_with_holds : (s : NodeStage) → KnowsNode m p.now f i load passed q w s → KnowsNode m p.now with_holds i load passed q w s
    node_with_holds (node.Meta s) h = at_node_with_holds s h
    node_with_holds (node.Text s at) h = (at_node_with_holds s h.0, h.1)
    node_with_holds (node.Count s) h = (at_node_with_holds s h.0, h.1)
    node_with_holds (node.Link s) h = (at_node_with_holds s h.0, h.1)
    node_with_holds (node.Take s count) h = h

    insert_with_holds : (s : InsertStage) → KnowsInsert m p.now f i load passed q w s → KnowsInsert m p.now with_holds i load passed q w s
    insert_with_holds (insert.Claim slot tried) h = at_end_with_holds h
    insert_with_holds (insert.OwnCount slot) h = (at_end_with_holds h.0, h.1)
    insert_with_holds (insert.PutMeta k) h = (at_end_with_holds h.0, h.1)
    insert_with_holds (insert.PutText k at) h = (at_end_with_holds h.0, h.1, h.2)
    insert_with_holds (insert.PutLink k) h = (at_end_with_holds h.0, h.1, h.2, h.3)
    insert_with_holds (insert.PutCount k) h = (at_end_with_holds h.0, h.1, h.2, h.3)
    insert_with_holds (insert.Create k) h = (at_end_with_holds h.0, h.1, h.2, h.3, h.4)

  module _ (i : ℕ) where
    locked_with_holds : (row bucket : ℕ) (first : Option ℕ) → Locked m p.now f i row bucket first → Locked m p.now with_holds i row bucket first
    locked_with_holds row bucket first h = record { used = h.used; unpinned = h.unpinned; lock = h.lock; head = h.head }

    leads_with_holds : (c : Cleaning) (last : Option ℕ) (s : ℕ) → LeadsTo m f c last s → LeadsTo m with_holds c last s
    leads_with_holds c None s h = h
    leads_with_holds c (Some last) s h = h

    at_edge_with_holds : (c : Cleaning) (s : ℕ) → IsAtNode m p.now f i c s → IsAtNode m p.now with_holds i c s
    at_edge_with_holds c s h = (locked_with_holds c.row c.bucket c.first h.0, h.1, leads_with_holds c c.last s h.2)

    pass_with_holds : (c : Cleaning) (s : PassStage) → KnowsPass m p.now f i c s → KnowsPass m p.now with_holds i c s
    pass_with_holds c (pass.LoadCount s) h = at_edge_with_holds c s h
    pass_with_holds c (pass.LoadLink s None) h = at_edge_with_holds c s h
    pass_with_holds c (pass.LoadLink s (Some g)) h = (at_edge_with_holds c s h.0, h.1)
    pass_with_holds c (pass.Unlink s g next) h = (at_edge_with_holds c s h.0, h.1, h.2)

    cleaning_with_holds : (w : CleanAlong) (s : CleanStage) → KnowsCleaning m p f i w s → KnowsCleaning m p with_holds i w s
    cleaning_with_holds w clean.LoadLevel h = h
    cleaning_with_holds w (clean.Lock s) h = h
    cleaning_with_holds w (clean.Pass s) h = (h.0, pass_with_holds w.cleaning s h.1, h.2)
    cleaning_with_holds w clean.UnlockHead h = (h.0, locked_with_holds w.cleaning.row w.cleaning.bucket w.cleaning.first h.1, h.2)
    cleaning_with_holds w (clean.Grace freeing s) h = h
    cleaning_with_holds w (clean.Free freeing s) h = h
    cleaning_with_holds w clean.GiveResizeLock h = h

    resizing_with_holds : (level : ℕ) (stage : Stage) (except : ℕ → ℕ → Type 0) → Resizing p.now f i level stage except → Resizing p.now with_holds i level stage except
    resizing_with_holds level stage except h = record { owner = h.owner; at_level = h.at_level; at_stage = h.at_stage; free = h.free }

    left_with_holds : (l : Left) → KnowsLeft p.now f i l → KnowsLeft p.now with_holds i l
    left_with_holds left.Nothing h = h
    left_with_holds left.Clean h = resizing_with_holds p.now.level Quiet NoHead h
    left_with_holds (left.Resize d level) h = resizing_with_holds level Quiet NoHead h
    left_with_holds (left.Grace g) h = h

    begin_with_holds : (s : BeginStage) → KnowsBegin p.now f i s → KnowsBegin p.now with_holds i s
    begin_with_holds (begin.LoadCounter t) h = h
    begin_with_holds (begin.TakeResizeLock t) h = h
    begin_with_holds (begin.LoadLevel d) h = resizing_with_holds p.now.level Quiet NoHead h
    begin_with_holds (begin.GiveResizeLock a) h = resizing_with_holds p.now.level Quiet NoHead h
    begin_with_holds (begin.Grace g grace.RaiseCounter) h = h
    begin_with_holds (begin.Grace g grace.LoadSection) h = h
    begin_with_holds (begin.Answered a l) h = left_with_holds l h

    work_with_holds : (w : Option Work) → IfSome w (KnowsWork m p f i) → IfSome w (KnowsWork m p with_holds i)
    work_with_holds None h = tt
    work_with_holds (Some (work.Clean c)) h = (resizing_with_holds p.now.level Quiet NoHead h.0, cleaning_with_holds c.along c.stage h.1)
    work_with_holds (Some (work.Resize r)) h = resize_with_holds m p.now f holds i r.direction r.along r.stage h

    closing_with_holds : (c : Cleaning) (why : Closing) → KnowsClosing m p.now f i c why → KnowsClosing m p.now with_holds i c why
    closing_with_holds c closing.Again h = h
    closing_with_holds c closing.Clean h = (locked_with_holds c.row c.bucket c.first h.0, h.1)

    sweep_with_holds : (q : SweepAsked) (w : SweepAlong) (s : SweepStage) → KnowsSweep m p f i q w s → KnowsSweep m p with_holds i q w s
    sweep_with_holds q w sweep.Check h = h
    sweep_with_holds q w (sweep.Find s) h = find_with_holds i q.hash w.walk s h
    sweep_with_holds q w sweep.Lock h = h
    sweep_with_holds q w (sweep.Close why) h = (h.0, closing_with_holds w.cleaning why h.1)
    sweep_with_holds q w (sweep.Pass s) h = (h.0, pass_with_holds w.cleaning s h.1, h.2)
    sweep_with_holds q w sweep.UnlockHead h = (h.0, locked_with_holds w.cleaning.row w.cleaning.bucket w.cleaning.first h.1, h.2)
    sweep_with_holds q w (sweep.Grace s) h = h
    sweep_with_holds q w (sweep.Free s) h = h
    sweep_with_holds q w (sweep.Answered a) h = h

    module _ (more : (h : Handle) → f.holds i h ≤ holds i h) where
      still_holds : (h : Handle) → 1 ≤ f.holds i h → 1 ≤ holds i h
      still_holds h some = let least = more h in omega (arith, some, least)

      change_with_holds : (kind : Kind) (change : Change) (h : Handle) → MayChange kind p f i change h → MayChange kind p with_holds i change h
      change_with_holds kind Kill h may = may
      change_with_holds kind Drop h may = (may.0, still_holds h may.1)
      change_with_holds kind Permanent h may = (may.0, still_holds h may.1)

      handle_with_holds : (q : Asked) (s : HandleStage) → KnowsHandle p f i q s → KnowsHandle p with_holds i q s
      handle_with_holds q (handle.Count change) h = (h.0, change_with_holds q.kind change q.handle h.1)
      handle_with_holds q (handle.Exchange change count) h = (h.0, change_with_holds q.kind change q.handle h.1, h.2)

      read_with_holds : (q : Asked) (kind : Kind) (s : ReadStage) → KnowsRead m p f i q kind s → KnowsRead m p with_holds i q kind s
      read_with_holds q Counted read.Meta h = (h.0, still_holds q.handle h.1)
      read_with_holds q Counted (read.Text at len) h = (h.0, still_holds q.handle h.1, h.2)
      read_with_holds q Counted (read.Enter s) h = absurd h
      read_with_holds q Counted read.Count h = absurd h
      read_with_holds q Weak (read.Enter s) h = h
      read_with_holds q Weak read.Count h = h
      read_with_holds q Weak read.Meta h = h
      read_with_holds q Weak (read.Text at len) h = h

      stage_with_holds : (load : ℕ) (passed : List ℕ) (q : Asked) (w : Along) (s : CallStage) → KnowsStage m p f i load passed q w s → KnowsStage m p with_holds i load passed q w s
      stage_with_holds load passed q w (stage.Answered a) h = h
      stage_with_holds load passed q w (stage.Draw s) h = h
      stage_with_holds load passed q w (stage.Find s) h = (find_with_holds i (hash_of q.seed q.text) w.walk s h.0, h.1, h.2, h.3)
      stage_with_holds load passed q w (stage.Node s) h = (node_with_holds i load passed q w s h.0, h.1)
      stage_with_holds load passed q w (stage.Insert s) h = insert_with_holds i load passed q w s h
      stage_with_holds load passed q w (stage.Leave s) h = h
      stage_with_holds load passed q w (stage.Handle s) h = handle_with_holds q s h
      stage_with_holds load passed q w (stage.Read s) h = read_with_holds q q.kind s h

      machine_with_holds : (load : ℕ) (passed : List ℕ) (k : Machine) → KnowsMachine m p f i load passed k → KnowsMachine m p with_holds i load passed k
      machine_with_holds load passed (machine.Call c w g) h = ((stage_with_holds load passed c.asked c.along c.stage h.0.0, h.0.1), work_with_holds w h.1, h.2)
      machine_with_holds load passed (machine.Begin b) h = (h.0, begin_with_holds b.stage h.1)
      machine_with_holds load passed (machine.Poll q) h = (h.0, work_with_holds (work_left q.work q.answer) h.1)
      machine_with_holds load passed (machine.Sweep s) h = sweep_with_holds s.asked s.along s.stage h

      -- a seat that holds no less knows what it knew, whatever its numbers are
      pub knows_with_holds : (t : Table) (v : View) (numbers : List ℕ) → Knows t m p f i v → Knows t m p with_holds i (record v { numbers = numbers })
      knows_with_holds t v numbers h = go v.seat h
        where
          go : (s : Seat) → Knows t m p f i (record v { seat = s }) → Knows t m p with_holds i (record v { seat = s; numbers = numbers })
          go (doing.Idle own) h = (h.0, (h.1.0, work_with_holds own.work h.1.1, h.1.2))
          go (doing.Running k) h = (h.0, machine_with_holds v.load v.passed k h.1)
