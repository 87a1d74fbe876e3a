-- The stages in which a call finds the head of its text's bucket: its section is opened, the level and the head are loaded, and its walk begins.
use Rattle.std.proofs.Common.{◌≡◌, ℕ, Bool, true, false, cond, List, [], Some, None, refl, sym, ap, subst, inl, ◌∙◌, arith}
use Rattle.chain_core.specs.Path.{IsPath}
use Rattle.text_words.specs.Hash.{hash_of}
use Rattle.marked_word.specs.Head.{is_redirected, first_of}
use Rattle.marked_word.specs.Number.{new_level_of}
use Rattle.table_shape.specs.declared.place.Place.TheVariants as place
use Rattle.intern_log.specs.declared.event.What.TheVariants as what
use Rattle.atomic_step.specs.declared.step.Step.TheVariants as step
use Rattle.atomic_step.specs.Turn.{map_row}
use Rattle.call_machine.specs.declared.enter.EnterStage.TheVariants as enter
use Rattle.call_machine.specs.declared.find.FindStage.{FindStage}
use Rattle.call_machine.specs.declared.find.FindStage.TheVariants as find
use Rattle.call_machine.specs.declared.find.Walk.{Walk}
use Rattle.call_machine.specs.declared.stage.Along.{Along}
use Rattle.call_machine.specs.declared.stage.Asked.{Asked}
use Rattle.call_machine.specs.declared.stage.CallStage.TheVariants as stage
use Rattle.call_machine.specs.Calls.{found, finds}
use Rattle.call_machine.specs.Find.{find_row, turned_to}
use Rattle.call_machine.specs.Node.{comes_to}
use Rattle.cht_core.specs.declared.table.Table.{Table}
use Rattle.cht_core.specs.Flow.{Flow, IsUsed, ComesTo}
use Rattle.cht_core.specs.Stage.{bucket_in, named_level}
use Rattle.cht_core.specs.KnowsCall.{KnowsKept, KnowsStage, KnowsCall, KnowsFind, IsAtHead, IsAtNewHead}
use Rattle.cht_core.specs.Memory.{Memory, links}
use Rattle.cht_core.specs.Past.{Past, past_after, by}
use Rattle.cht_core.specs.Search.{Walking, IsSentOn}
use Rattle.cht_core.specs.TableState.{IsTable}
use Rattle.cht_core.proofs.Basics.{after_load, with_here}
use Rattle.cht_core.proofs.CallTurns.{Serves, kept_stays, walk_known}
use Rattle.cht_core.proofs.Routes.{comes_where_plain}
use Rattle.cht_core.proofs.Stages.{comes_used}
use Rattle.cht_core.proofs.Ties.{IsAskedOf}
use Rattle.cht_core.proofs.Walks.{begins_walk, comes_head, redirected_on, sent_to, new_level_says, new_comes}

module _ (t : Table) (m : Memory) (p : Past) (f : Flow) (table : IsTable t m p f) (i : ℕ) where
  -- a head to which callers come was loaded: it is not redirected, and its path is the chain of the bucket
  pub head_loaded : (hash : ℕ) (walk : Walk) → ComesTo p.now f hash walk.row → walk.bucket ≡ bucket_in walk.row hash
      → (is_redirected (m (place.Head walk.row walk.bucket)) ≡ false) × IsPath (links m) (first_of (m (place.Head walk.row walk.bucket))) (f.chain walk.row walk.bucket)
  head_loaded hash walk to at =
      subst (λ (b : ℕ). (is_redirected (m (place.Head walk.row b)) ≡ false) × IsPath (links m) (first_of (m (place.Head walk.row b))) (f.chain walk.row b)) (sym at)
      (comes_head t m p f table hash walk.row to)

  -- to the head at which a seat is callers come, if it is not redirected
  pub plain_comes : (hash : ℕ) (walk : Walk) → IsAtHead p.now f i hash walk → is_redirected (m (place.Head walk.row walk.bucket)) ≡ false → ComesTo p.now f hash walk.row
  plain_comes hash walk h plain = comes_where_plain t m p f i hash walk.row h.0 table h.1 h.2 (subst (λ (b : ℕ). is_redirected (m (place.Head walk.row b)) ≡ false) h.3 plain)

  -- the head may be locked, then
  pub plain_used : (hash : ℕ) (walk : Walk) → IsAtHead p.now f i hash walk → is_redirected (m (place.Head walk.row walk.bucket)) ≡ false → IsUsed p.now f walk.row walk.bucket
  plain_used hash walk h plain =
      subst (IsUsed p.now f walk.row) (sym h.3) (comes_used p.now f hash walk.row table.chains.within (plain_comes hash walk h plain))

  -- and if it is, the seat is sent on
  pub sent_from : (hash : ℕ) (walk : Walk) (h : IsAtHead p.now f i hash walk) → is_redirected (m (place.Head walk.row walk.bucket)) ≡ true → IsSentOn p.now f h.0.place hash walk.row
  sent_from hash walk h redirected = redirected_on t m p f table i h.0 hash walk.row h.1 h.2 (subst (λ (b : ℕ). is_redirected (m (place.Head walk.row b)) ≡ true) h.3 redirected)

  -- to the head at which a seat is that was sent on callers come
  pub new_head_comes : (hash : ℕ) (walk : Walk) → IsAtNewHead p.now f i hash walk → ComesTo p.now f hash walk.row
  new_head_comes hash walk h = new_comes t m p f table i h.0 hash h.4.0 walk.row h.1 h.2 h.4.1 h.4.2

  -- the level that it is sent to
  pub new_level_named : (hash : ℕ) (walk : Walk) → KnowsFind m p.now f i hash walk find.LoadNewLevel → (level : ℕ) × (named_level f.stage p.now.level ≡ Some level)
  new_level_named hash walk h = let to = sent_to t m p f table i h.0 hash walk.row h.1 h.2 in (to.0, to.1)

  -- and the head there
  pub new_level_at : (hash : ℕ) (walk : Walk) → KnowsFind m p.now f i hash walk find.LoadNewLevel → IsAtNewHead p.now f i hash (turned_to hash (new_level_of (m place.NewLevel)) walk)
  new_level_at hash walk h =
      let to = sent_to t m p f table i h.0 hash walk.row h.1 h.2 in
      subst (λ (level : ℕ). IsAtNewHead p.now f i hash (turned_to hash level walk)) (sym (new_level_says t m p f table to.0 to.1))
      (h.0, h.1, to.3, refl, (walk.row, to.2, h.2))

  module _ (load : ℕ) (q : Asked) (w : Along) (asked : IsAskedOf t p.now i q) where
    -- from that head the walk begins
    walk_begins : IsAtHead p.now f i (hash_of q.seed q.text) w.walk → ComesTo p.now f (hash_of q.seed q.text) w.walk.row → KnowsKept m p.now i q w → w.walk.passed ≡ 0 → (word : ℕ) → word ≡ m (place.Head w.walk.row w.walk.bucket)
        → KnowsStage m p f i p.now.place [] q (record w { walk = record w.walk { head = word } }) (comes_to q w word (first_of word))
    walk_begins h to kept counted word is =
        let hash = hash_of q.seed q.text in
        let loaded = head_loaded hash w.walk to h.3 in
        let plain : is_redirected word ≡ false = ap is_redirected is ∙ loaded.0 in
        let path : IsPath (links m) (first_of word) (f.chain w.walk.row (bucket_in w.walk.row hash)) =
        subst (λ (b : ℕ). IsPath (links m) (first_of word) (f.chain w.walk.row b)) h.3
        (subst (λ (x : ℕ). IsPath (links m) (first_of x) (f.chain w.walk.row w.walk.bucket)) (sym is) loaded.1) in
        let walking : Walking m p.now f i q.text hash w.walk.row p.now.place (first_of word) [] (first_of word) =
        begins_walk t m p f table i h.0 q.text hash w.walk.row (first_of word) h.1 (ap (λ (seed : ℕ). hash_of seed q.text) asked.seed) h.2 to path in
        walk_known m p f i p.now.place [] q w (record w.walk { head = word }) (first_of word) walking h.3 counted plain kept

    -- each stage of finding the head
    pub find_serves : (passed : List ℕ) (s : FindStage) → KnowsCall m p f i load passed q w (stage.Find s)
        → Serves t m p f i load passed q (map_row (found q w) (find_row q.number (hash_of q.seed q.text) w.walk s))
    find_serves passed (find.Enter enter.LoadCounter) h = record {
      backs = tt;
      leads = λ m' made went. subst (λ (now : Memory). KnowsCall now p f i load passed q w (stage.Find (find.Enter (enter.OpenSection (m place.Counter)))))
          (sym (after_load step.LoadCounter m m' refl made))
          (((h.0.0, omega arith), h.0.1, h.0.2, h.0.3), h.1);
    }
    find_serves passed (find.Enter (enter.OpenSection counter)) h = record {
      backs = h.0.0;
      leads = λ m' made went. (
        (
          (record { place = p.now.place; counter = counter }, with_here p.now.section i (Some (record { place = p.now.place; counter = counter })) i refl),
          kept_stays m p.now m' (past_after p (by i (what.Open counter))).now i q.seed q.text w.kept (record {
            claimed = λ s is. is;
            count = λ s is. made.there (place.Count s) (λ same. let clash : place.Count s ≡ place.Section q.number = same in cc);
            meta = λ s is. made.there (place.Meta s) (λ same. let clash : place.Meta s ≡ place.Section q.number = same in cc);
            text = λ s at is. made.there (place.Text s at) (λ same. let clash : place.Text s at ≡ place.Section q.number = same in cc);
          }) h.0.1,
          refl,
          h.0.3,
        ),
        h.1,
      );
    }
    find_serves passed find.LoadLevel h = record {
      backs = tt;
      leads = λ m' made went. subst (λ (now : Memory). KnowsCall now p f i load passed q (record w { walk = turned_to (hash_of q.seed q.text) (m place.Level) w.walk }) (stage.Find find.LoadHead))
          (sym (after_load step.LoadLevel m m' refl made)) (((h.0.0.0, h.0.0.1, inl table.heads.level, refl), h.0.1, h.0.2, h.0.3), h.1);
    }
    find_serves passed find.LoadHead h = record {
      backs = tt;
      leads = λ m' made went.
          let word : ℕ = m (place.Head w.walk.row w.walk.bucket) in
          let along : Along = record w { walk = record w.walk { head = word } } in
          subst (λ (now : Memory). KnowsCall now p f i p.now.place passed q along (finds q w word (cond (is_redirected word) (Some find.LoadNewLevel) None)))
          (sym (after_load (step.LoadHead w.walk.row w.walk.bucket) m m' refl made)) (by_mark passed h (is_redirected word) refl, h.1);
    }
      where
        by_mark : (passed : List ℕ) (h : KnowsCall m p f i load passed q w (stage.Find find.LoadHead)) (b : Bool) → is_redirected (m (place.Head w.walk.row w.walk.bucket)) ≡ b →
            let word : ℕ = m (place.Head w.walk.row w.walk.bucket) in
            KnowsStage m p f i p.now.place passed q (record w { walk = record w.walk { head = word } }) (finds q w word (cond b (Some find.LoadNewLevel) None))
        by_mark passed h true is = ((h.0.0.0, h.0.0.1, sent_from (hash_of q.seed q.text) w.walk h.0.0 is), h.0.1, h.0.2, h.0.3)
        by_mark passed h false is =
            let word : ℕ = m (place.Head w.walk.row w.walk.bucket) in
            let along : Along = record w { walk = record w.walk { head = word } } in
            subst (λ (nodes : List ℕ). KnowsStage m p f i p.now.place nodes q along (comes_to q w word (first_of word))) (sym h.0.2)
            (walk_begins h.0.0 (plain_comes (hash_of q.seed q.text) w.walk h.0.0 is) h.0.1 h.0.3 word refl)
    find_serves passed find.LoadNewLevel h = record {
      backs = new_level_named (hash_of q.seed q.text) w.walk h.0.0;
      leads = λ m' made went. subst (λ (now : Memory). KnowsCall now p f i load passed q (record w { walk = turned_to (hash_of q.seed q.text) (new_level_of (m place.NewLevel)) w.walk }) (stage.Find find.LoadNewHead))
          (sym (after_load step.LoadNewLevel m m' refl made)) ((new_level_at (hash_of q.seed q.text) w.walk h.0.0, h.0.1, h.0.2, h.0.3), h.1);
    }
    find_serves passed find.LoadNewHead h = record {
      backs = tt;
      leads = λ m' made went.
          let word : ℕ = m (place.Head w.walk.row w.walk.bucket) in
          let along : Along = record w { walk = record w.walk { head = word } } in
          let at : IsAtHead p.now f i (hash_of q.seed q.text) w.walk = (h.0.0.0, h.0.0.1, h.0.0.2, h.0.0.3) in
          subst (λ (now : Memory). KnowsCall now p f i p.now.place passed q along (comes_to q w word (first_of word))) (sym (after_load (step.LoadHead w.walk.row w.walk.bucket) m m' refl made)) (
            subst (λ (nodes : List ℕ). KnowsStage m p f i p.now.place nodes q along (comes_to q w word (first_of word))) (sym h.0.2)
                (walk_begins at (new_head_comes (hash_of q.seed q.text) w.walk h.0.0) h.0.1 h.0.3 word refl),
            h.1,
          );
    }
