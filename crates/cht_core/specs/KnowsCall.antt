-- What a call of a reader or an inserter, or by handle, knows of the table at each of its stages.
use Rattle.std.specs.Prelude.{◌≡◌, ◌≢◌, ℕ, ◌≤◌, ◌⊎◌, true, false, List, [], length, Some, IfSome}
use Rattle.text_words.specs.Hash.{hash_of}
use Rattle.text_words.specs.Words.{words_of}
use Rattle.marked_word.specs.Head.{is_locked, is_redirected, first_of}
use Rattle.marked_word.specs.Link.{link_word}
use Rattle.marked_word.specs.Meta.{meta_word}
use Rattle.table_shape.specs.declared.place.Place.TheVariants as place
use Rattle.intern_log.specs.declared.event.Handle.{Handle}
use Rattle.intern_log.specs.declared.event.Kind.{Kind}
use Rattle.intern_log.specs.declared.event.Kind.TheVariants.{Counted, Weak}
use Rattle.intern_log.specs.Now.{Now, OpenSection, Claimed, Linked}
use Rattle.atomic_step.specs.declared.count.Change.{Change}
use Rattle.atomic_step.specs.declared.count.Change.TheVariants.{Kill}
use Rattle.atomic_step.specs.Count.{generation_of, holds_of, holds_word, is_live}
use Rattle.call_machine.specs.declared.enter.EnterStage.{EnterStage}
use Rattle.call_machine.specs.declared.enter.EnterStage.TheVariants as enter
use Rattle.call_machine.specs.declared.find.FindStage.{FindStage}
use Rattle.call_machine.specs.declared.find.FindStage.TheVariants as find
use Rattle.call_machine.specs.declared.find.Walk.{Walk}
use Rattle.call_machine.specs.declared.handle.HandleStage.{HandleStage}
use Rattle.call_machine.specs.declared.handle.HandleStage.TheVariants as handle
use Rattle.call_machine.specs.declared.insert.InsertStage.{InsertStage}
use Rattle.call_machine.specs.declared.insert.InsertStage.TheVariants as insert
use Rattle.call_machine.specs.declared.leave.LeaveStage.{LeaveStage}
use Rattle.call_machine.specs.declared.leave.LeaveStage.TheVariants as leave
use Rattle.call_machine.specs.declared.node.NodeStage.{NodeStage}
use Rattle.call_machine.specs.declared.node.NodeStage.TheVariants as node
use Rattle.call_machine.specs.declared.read.ReadStage.{ReadStage}
use Rattle.call_machine.specs.declared.read.ReadStage.TheVariants as read
use Rattle.call_machine.specs.declared.stage.Along.{Along}
use Rattle.call_machine.specs.declared.stage.Asked.{Asked}
use Rattle.call_machine.specs.declared.stage.CallStage.{CallStage}
use Rattle.call_machine.specs.declared.stage.CallStage.TheVariants as stage
use Rattle.call_machine.specs.Sought.{meta_of}
use Rattle.cht_core.specs.Flow.{Flow}
use Rattle.cht_core.specs.Stage.{bucket_in}
use Rattle.cht_core.specs.Memory.{Memory}
use Rattle.cht_core.specs.Past.{Past}
use Rattle.cht_core.specs.Search.{IsRouted, IsSentOn, IsNoMatch, IsInside, IsOutside, IsSeenWith, IsSeenLike, IsUnlinkedSince, Searched, Walking}
use Rattle.cht_core.specs.Slots.{HasText}

-- opening a section: its counter was loaded
abbrev pub KnowsEnter : Memory → Now → ℕ → EnterStage → Type 0
KnowsEnter m n i enter.LoadCounter = IsOutside n i
KnowsEnter m n i (enter.OpenSection counter) = IsOutside n i × (counter ≤ m place.Counter)

-- the walk is at the bucket of a hash, in a row to which the seat was sent
abbrev pub IsAtHead : Now → Flow → ℕ → ℕ → Walk → Type 0
IsAtHead n f i hash walk = (o : OpenSection) × (n.section i ≡ Some o) × IsRouted n f o.place hash walk.row × (walk.bucket ≡ bucket_in walk.row hash)

-- the same, where another row's head was redirected: the head that it is at is not
abbrev pub IsAtNewHead : Now → Flow → ℕ → ℕ → Walk → Type 0
IsAtNewHead n f i hash walk =
    (o : OpenSection) × (n.section i ≡ Some o) × IsRouted n f o.place hash walk.row × (walk.bucket ≡ bucket_in walk.row hash) × ((old : ℕ) × (old ≢ walk.row) × IsSentOn n f o.place hash old)

-- finding the head of a hash
abbrev pub KnowsFind : Memory → Now → Flow → ℕ → ℕ → Walk → FindStage → Type 0
KnowsFind m n f i hash walk (find.Enter s) = KnowsEnter m n i s
KnowsFind m n f i hash walk find.LoadLevel = IsInside n i
KnowsFind m n f i hash walk find.LoadHead = IsAtHead n f i hash walk
KnowsFind m n f i hash walk find.LoadNewLevel = (o : OpenSection) × (n.section i ≡ Some o) × IsSentOn n f o.place hash walk.row
KnowsFind m n f i hash walk find.LoadNewHead = IsAtNewHead n f i hash walk

-- the seat has claimed the slot, and its count word has the handle's generation
abbrev pub HasClaimed : Memory → Now → ℕ → Handle → Type 0
HasClaimed m n i h = (n.slot h.slot ≡ Claimed i) × (generation_of (m (place.Count h.slot)) ≡ h.generation)

-- the meta word and the text words up to one are those of the text
abbrev pub HasWords : Memory → ℕ → List ℕ → ℕ → ℕ → Type 0
HasWords m seed text s bound = (m (place.Meta s) ≡ meta_word (meta_of seed text)) × HasText m s text bound

-- the slot that an intern keeps: it is filled but for its link
abbrev pub IsKept : Memory → Now → ℕ → ℕ → List ℕ → Handle → Type 0
IsKept m n i seed text h = HasClaimed m n i h × HasWords m seed text h.slot (words_of (length text)) × (m (place.Count h.slot) ≡ holds_word h 1)

abbrev pub KnowsKept : Memory → Now → ℕ → Asked → Along → Type 0
KnowsKept m n i q w = IfSome w.kept (IsKept m n i q.seed q.text)

-- a walk at a node
pub record AtNode (m : Memory) (n : Now) (f : Flow) (i load : ℕ) (passed : List ℕ) (q : Asked) (w : Along) (s : ℕ) : Type 0 where
  pub walking : Walking m n f i q.text (hash_of q.seed q.text) w.walk.row load (first_of w.walk.head) passed (Some s)
  pub bucket : w.walk.bucket ≡ bucket_in w.walk.row (hash_of q.seed q.text)
  pub counted : w.walk.passed ≡ length passed
  pub plain : is_redirected w.walk.head ≡ false

abbrev pub KnowsNode : Memory → Now → Flow → ℕ → ℕ → List ℕ → Asked → Along → NodeStage → Type 0
KnowsNode m n f i load passed q w (node.Meta s) = AtNode m n f i load passed q w s
KnowsNode m n f i load passed q w (node.Text s at) = AtNode m n f i load passed q w s × IsSeenLike n i s q.text at
KnowsNode m n f i load passed q w (node.Count s) = AtNode m n f i load passed q w s × IsSeenWith n i s q.text
KnowsNode m n f i load passed q w (node.Link s) = AtNode m n f i load passed q w s × IsNoMatch n q.text load s
KnowsNode m n f i load passed q w (node.Take s count) = IsSeenWith n i s q.text × (1 ≤ holds_of count)

-- a walk at its end: the head that it loaded has no mark
pub record AtEnd (n : Now) (f : Flow) (i load : ℕ) (passed : List ℕ) (q : Asked) (w : Along) : Type 0 where
  pub searched : Searched n f i q.text (hash_of q.seed q.text) w.walk.row load (first_of w.walk.head) passed []
  pub bucket : w.walk.bucket ≡ bucket_in w.walk.row (hash_of q.seed q.text)
  pub open_head : is_locked w.walk.head ≡ false
  pub plain : is_redirected w.walk.head ≡ false

abbrev pub KnowsInsert : Memory → Now → Flow → ℕ → ℕ → List ℕ → Asked → Along → InsertStage → Type 0
KnowsInsert m n f i load passed q w (insert.Claim slot tried) = AtEnd n f i load passed q w
KnowsInsert m n f i load passed q w (insert.OwnCount slot) = AtEnd n f i load passed q w × (n.slot slot ≡ Claimed i)
KnowsInsert m n f i load passed q w (insert.PutMeta h) = AtEnd n f i load passed q w × HasClaimed m n i h
KnowsInsert m n f i load passed q w (insert.PutText h at) = AtEnd n f i load passed q w × HasClaimed m n i h × HasWords m q.seed q.text h.slot at
KnowsInsert m n f i load passed q w (insert.PutLink h) =
    AtEnd n f i load passed q w × HasClaimed m n i h × HasWords m q.seed q.text h.slot (words_of (length q.text)) × IfSome w.kept (λ k. (k ≡ h) × (m (place.Count h.slot) ≡ holds_word h 1))
KnowsInsert m n f i load passed q w (insert.PutCount h) =
    AtEnd n f i load passed q w × HasClaimed m n i h × HasWords m q.seed q.text h.slot (words_of (length q.text)) × (m (place.Link h.slot) ≡ link_word (first_of w.walk.head))
KnowsInsert m n f i load passed q w (insert.Create h) =
    AtEnd n f i load passed q w × HasClaimed m n i h × HasWords m q.seed q.text h.slot (words_of (length q.text)) × (m (place.Link h.slot) ≡ link_word (first_of w.walk.head))
    × (m (place.Count h.slot) ≡ holds_word h 1)

-- leaving the section
abbrev pub KnowsLeave : Memory → Now → ℕ → Asked → Along → LeaveStage → Type 0
KnowsLeave m n i q w (leave.UndoCount h after) = IsInside n i × HasClaimed m n i h
KnowsLeave m n i q w (leave.UndoClaim slot after) = IsInside n i × (n.slot slot ≡ Claimed i)
KnowsLeave m n i q w (leave.Close after) = IsInside n i × KnowsKept m n i q w

-- the seat may change the count of the handle: it holds it, or in a weak table the handle was created
abbrev pub MayChange : Kind → Past → Flow → ℕ → Change → Handle → Type 0
MayChange kind p f i Kill h = (kind ≡ Weak) × (p.made h ≡ true)
MayChange kind p f i _ h = (kind ≡ Counted) × (1 ≤ f.holds i h)

-- a count that is to be changed
abbrev pub IsCountOf : Change → Handle → ℕ → Type 0
IsCountOf Kill h count = is_live h count ≡ true
IsCountOf _ h count = (generation_of count ≡ h.generation) × (1 ≤ holds_of count)

abbrev pub KnowsHandle : Past → Flow → ℕ → Asked → HandleStage → Type 0
KnowsHandle p f i q (handle.Count change) = IsOutside p.now i × MayChange q.kind p f i change q.handle
KnowsHandle p f i q (handle.Exchange change count) = IsOutside p.now i × MayChange q.kind p f i change q.handle × IsCountOf change q.handle count

-- the handle of a text that has room was linked as the section of the seat was open, and the words of the text are still there
pub record Reading (m : Memory) (n : Now) (i : ℕ) (h : Handle) (text : List ℕ) : Type 0 where
  pub section : OpenSection
  pub inside : n.section i ≡ Some section
  pub held : ((born : ℕ) × (n.slot h.slot ≡ Linked text h born)) ⊎ IsUnlinkedSince n section.place h.slot
  pub short : length text ≤ 65535
  pub words : HasWords m n.seed text h.slot (words_of (length text))

-- in a counted table the seat holds the handle; in a weak one the handle was created
abbrev pub KnowsRead : Memory → Past → Flow → ℕ → Asked → Kind → ReadStage → Type 0
KnowsRead m p f i q Counted read.Meta = IsOutside p.now i × (1 ≤ f.holds i q.handle)
KnowsRead m p f i q Counted (read.Text at len) = IsOutside p.now i × (1 ≤ f.holds i q.handle)
    × ((text : List ℕ) × (born : ℕ) × (p.now.slot q.handle.slot ≡ Linked text q.handle born) × (len ≡ length text))
KnowsRead m p f i q Counted s = ⊥
KnowsRead m p f i q Weak (read.Enter s) = KnowsEnter m p.now i s × (p.made q.handle ≡ true)
KnowsRead m p f i q Weak read.Count = IsInside p.now i × (p.made q.handle ≡ true)
KnowsRead m p f i q Weak read.Meta = (text : List ℕ) × Reading m p.now i q.handle text
KnowsRead m p f i q Weak (read.Text at len) = (text : List ℕ) × Reading m p.now i q.handle text × (len ≡ length text)

-- a call at its stage; the nodes that a walk has passed are at most the slots of the table
abbrev pub KnowsStage : Memory → Past → Flow → ℕ → ℕ → List ℕ → Asked → Along → CallStage → Type 0
KnowsStage m p f i load passed q w (stage.Answered a) = IsOutside p.now i
KnowsStage m p f i load passed q w (stage.Draw s) = IsOutside p.now i
KnowsStage m p f i load passed q w (stage.Find s) =
    KnowsFind m p.now f i (hash_of q.seed q.text) w.walk s × KnowsKept m p.now i q w × (passed ≡ []) × (w.walk.passed ≡ 0)
KnowsStage m p f i load passed q w (stage.Node s) = KnowsNode m p.now f i load passed q w s × KnowsKept m p.now i q w
KnowsStage m p f i load passed q w (stage.Insert s) = KnowsInsert m p.now f i load passed q w s
KnowsStage m p f i load passed q w (stage.Leave s) = KnowsLeave m p.now i q w s
KnowsStage m p f i load passed q w (stage.Handle s) = KnowsHandle p f i q s
KnowsStage m p f i load passed q w (stage.Read s) = KnowsRead m p f i q q.kind s

abbrev pub KnowsCall : Memory → Past → Flow → ℕ → ℕ → List ℕ → Asked → Along → CallStage → Type 0
KnowsCall m p f i load passed q w s = KnowsStage m p f i load passed q w s × (w.walk.passed ≤ q.shape.slots)
