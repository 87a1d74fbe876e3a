-- The chains of a level's row while they are made anew, from the last slot down.
use Rattle.std.proofs.Common.{◌≡◌, ◌≢◌, ℕ, suc, ◌+◌, ◌/◌, ◌%◌, ◌<◌, ◌≤◌, ◌^◌, ◌↔◌, ◌==◌, true, cond, nat_le, List, [], ◌∷◌, All, length, Option, Some, None, IfSome, option_and_then, inl, inr, refl, sym, ap, subst, ◌∙◌, arith}
use Rattle.std.specs.Prelude.{option_map}
use Rattle.std.proofs.lemmas.Bool.{cases_eq, le-leb}
use Rattle.std.proofs.lemmas.List.Elements.{All-nil, All-cons}
use Rattle.chain_core.specs.Nodes.{On}
use Rattle.chain_core.specs.Path.{IsPath}
use Rattle.text_words.specs.Hash.{hash_of}
use Rattle.marked_word.specs.declared.head.Head.{Head}
use Rattle.marked_word.specs.Link.{link_word, link_of, node_of}
use Rattle.marked_word.specs.Meta.{meta_word}
use Rattle.table_shape.specs.declared.place.Place.{Place}
use Rattle.table_shape.specs.declared.place.Place.TheVariants as place
use Rattle.intern_log.specs.declared.event.Handle.{Handle}
use Rattle.intern_log.specs.Now.{Now, Linked}
use Rattle.call_machine.specs.Sought.{meta_of}
use Rattle.cht_core.specs.Anew.{node_in}
use Rattle.cht_core.specs.Heads.{used_head}
use Rattle.cht_core.specs.Memory.{Memory, links}
use Rattle.cht_core.specs.Rehash.{IsAscending, IsAnew, IsRehashed}
use Rattle.cht_core.specs.Search.{IsLinked}
use Rattle.cht_core.specs.Shows.{IsOfBucket}
use Rattle.cht_core.proofs.AnewWords.{AreCleared, IsFirstNow}
use Rattle.cht_core.proofs.CalmParts.{path_kept}
use Rattle.cht_core.proofs.HeadWords.{node_of_link}

-- the head of a bucket leads to its linked slots from a number on
pub record IsPartAnew (m : Memory) (n : Now) (bucket from : ℕ) : Type 0 where
  pub nodes : List ℕ
  pub ascending : IsAscending nodes
  pub slots : (s : ℕ) → On s nodes ↔ (IsOfBucket n bucket s × (from ≤ s))
  pub first : Option ℕ
  pub head : m (place.Head n.level bucket) ≡ used_head first None
  pub path : IsPath (links m) first nodes

-- the words where the slots from a number on were put into their chains
pub record IsAnewFrom (m m' : Memory) (n : Now) (from : ℕ) : Type 0 where
  pub chains : (bucket : ℕ) → bucket < 2 ^ n.level → IsPartAnew m' n bucket from
  pub metas : (s : ℕ) (text : List ℕ) (h : Handle) (born : ℕ) → n.slot s ≡ Linked text h born → from ≤ s → m' (place.Meta s) ≡ meta_word (meta_of n.seed text)
  pub stay : (p : Place) → ¬ (IsAnew n p) → m' p ≡ m p
  pub later : (s : ℕ) → s < from → m' (place.Meta s) ≡ m (place.Meta s)

-- no slot was put yet
pub none_anew : (m m' : Memory) (n : Now) (bound : ℕ) → ((s : ℕ) → IsLinked n s → s < bound) → AreCleared m m' n.level (2 ^ n.level) → IsAnewFrom m m' n bound
none_anew m m' n bound inside cleared = record {
  chains = λ bucket below. record {
    nodes = [];
    ascending = tt;
    slots = λ s. (λ on. absurd on, λ of. past s (of.0.0, of.0.1, of.0.2, of.0.3) of.1);
    first = None;
    head = cleared.heads bucket below;
    path = refl;
  };
  metas = λ s text h born is from. absurd (past s (text, h, born, is) from);
  stay = λ p not. cleared.other p (λ bucket below e. not (subst (IsAnew n) (sym e) (refl, below)));
  later = λ s less. cleared.other (place.Meta s) (λ bucket below e. cc);
}
  where
    past : (s : ℕ) → IsLinked n s → bound ≤ s → ⊥
    past s linked from = let less = inside s linked in omega (arith, less, from)

-- a slot that is not linked is passed over
pub passed_over : (m m' : Memory) (n : Now) (at : ℕ) → ¬ (IsLinked n at) → IsAnewFrom m m' n (suc at) → IsAnewFrom m m' n at
passed_over m m' n at not was = record {
  chains = λ bucket below. let part = was.chains bucket below in record {
    nodes = part.nodes;
    ascending = part.ascending;
    slots = λ s. (
      λ on. let of = (part.slots s).0 on in (of.0, let from = of.1 in omega (arith, from)),
      λ of. (part.slots s).1 (of.0, after s (of.0.0, of.0.1, of.0.2, of.0.3) of.1),
    );
    first = part.first;
    head = part.head;
    path = part.path;
  };
  metas = λ s text h born is from. was.metas s text h born is (after s (text, h, born, is) from);
  stay = was.stay;
  later = λ s less. was.later s (omega (arith, less));
}
  where
    after : (s : ℕ) → IsLinked n s → at ≤ s → suc at ≤ s
    after s linked from = elim (cases_eq s at) [
      | inl same ↦ absurd (not (subst (IsLinked n) same linked))
      | inr differ ↦ omega (arith, from, differ)
    ]

-- THE FIRST NODE OF A HEAD

link_small : (first : Option ℕ) → IfSome first (λ s. s < 2 ^ 32) → nat_le (link_word first) (2 ^ 32) ≡ true
link_small None small = refl
link_small (Some s) small = le-leb (s + 1) (2 ^ 32) (omega (arith, small))

pub node_in_head : (first : Option ℕ) → IfSome first (λ s. s < 2 ^ 32) → node_in (used_head first None) ≡ first
node_in_head first small =
    let quarter : used_head first None / 4 ≡ link_word first = omega arith in
    let link : link_of (link_word first) ≡ Some first = ap (λ b. cond b (Some (node_of (link_word first))) None) (link_small first small) ∙ ap (λ (o : Option ℕ). Some o) (node_of_link first) in
    ap taken (ap link_of quarter ∙ link)
  where
    taken : Option (Option ℕ) → Option ℕ
    taken link = option_and_then (λ (head : Head). head.node)
        (option_map (λ node. record { node = node; lock = used_head first None % 2 == 1; redirect = used_head first None / 2 % 2 == 1 }) link)

first_below : (next : ℕ → Option ℕ) (first : Option ℕ) (nodes : List ℕ) (bound : ℕ) → IsPath next first nodes → ((s : ℕ) → On s nodes → s < bound) → IfSome first (λ s. s < bound)
first_below next first [] bound path below = subst (λ (o : Option ℕ). IfSome o (λ s. s < bound)) (sym path) tt
first_below next first (x ∷ nodes) bound path below = subst (λ (o : Option ℕ). IfSome o (λ s. s < bound)) (sym path.0) (below x (inl refl))

all_on : (P : ℕ → Type 0) (nodes : List ℕ) → ((s : ℕ) → On s nodes → P s) → All P nodes
all_on P [] holds = All-nil P
all_on P (x ∷ nodes) holds = All-cons P x nodes (holds x (inl refl)) (all_on P nodes (λ s on. holds s (inr on)))

abbrev slot_number : Place → ℕ
slot_number (place.Meta s) = s
slot_number (place.Link s) = s
slot_number _ = 0

abbrev bucket_number : Place → ℕ
bucket_number (place.Head row bucket) = bucket
bucket_number _ = 0

-- A LINKED SLOT IS PUT BEFORE THE OTHERS OF ITS BUCKET

module _ (m m1 m2 : Memory) (n : Now) (at : ℕ) (text : List ℕ) (h : Handle) (born : ℕ) (bounded : (s : ℕ) → IsLinked n s → s < 2 ^ 32) (is : n.slot at ≡ Linked text h born)
    (was : IsAnewFrom m m1 n (suc at)) (put : IsFirstNow m1 m2 n.level at (hash_of n.seed text) (length text)) where
  abbrev own : ℕ
  own = hash_of n.seed text % 2 ^ n.level

  of_own : IsOfBucket n own at
  of_own = (text, h, born, is, refl)

  -- the text that the slot is linked with
  same_text : (other : List ℕ) (k : Handle) (since : ℕ) → n.slot at ≡ Linked other k since → other ≡ text
  same_text other k since linked = let same : Linked other k since ≡ Linked text h born = sym linked ∙ is in cc

  -- a slot of another bucket is another slot
  other_bucket : (bucket s : ℕ) → bucket ≢ own → IsOfBucket n bucket s → s ≢ at
  other_bucket bucket s differ of same =
      let linked : n.slot at ≡ Linked of.0 of.1 of.2 = ap n.slot (sym same) ∙ of.3 in
      differ (sym of.4 ∙ ap (λ t. hash_of n.seed t % 2 ^ n.level) (same_text of.0 of.1 of.2 linked))

  links_stay : (bucket : ℕ) (part : IsPartAnew m1 n bucket (suc at)) (s : ℕ) → On s part.nodes → links m2 s ≡ links m1 s
  links_stay bucket part s on =
      let from = ((part.slots s).0 on).1 in
      ap node_of (put.other (place.Link s) (λ e. cc) (λ e. let same : s ≡ at = ap slot_number e in absurd (omega (arith, from, same))) (λ e. cc))

  -- its own bucket
  with_slot_first : IsPartAnew m1 n own (suc at) → IsPartAnew m2 n own at
  with_slot_first part =
      let below : (s : ℕ) → On s part.nodes → s < 2 ^ 32 = λ s on. let of = ((part.slots s).0 on).0 in bounded s (of.0, of.1, of.2, of.3) in
      let link : links m2 at ≡ part.first =
      ap node_of (put.link ∙ ap (λ word. link_word (node_in word)) part.head ∙ ap link_word (node_in_head part.first (first_below (links m1) part.first part.nodes (2 ^ 32) part.path below)))
      ∙ node_of_link part.first in
      record {
        nodes = at ∷ part.nodes;
        ascending = (all_on (λ x. at < x) part.nodes (λ s on. let from = ((part.slots s).0 on).1 in omega (arith, from)), part.ascending);
        slots = λ s. (
          λ on. elim on [
            | inl same ↦ (subst (IsOfBucket n own) same of_own, omega (arith, same))
            | inr later ↦ let of = (part.slots s).0 later in (of.0, let from = of.1 in omega (arith, from))
          ],
          λ of. elim (cases_eq at s) [
            | inl same ↦ inl same
            | inr differ ↦ inr ((part.slots s).1 (of.0, let from = of.1 in omega (arith, from, differ)))
          ],
        );
        first = Some at;
        head = put.head;
        path = (refl, subst (λ f. IsPath (links m2) f part.nodes) (sym link) (path_kept (links m1) (links m2) part.first part.nodes (links_stay own part) part.path));
      }

  -- another bucket
  others_stay : (bucket : ℕ) → bucket ≢ own → IsPartAnew m1 n bucket (suc at) → IsPartAnew m2 n bucket at
  others_stay bucket differ part = record {
    nodes = part.nodes;
    ascending = part.ascending;
    slots = λ s. (
      λ on. let of = (part.slots s).0 on in (of.0, let from = of.1 in omega (arith, from)),
      λ of. (part.slots s).1 (of.0, let from = of.1 in let apart = other_bucket bucket s differ of.0 in omega (arith, from, apart)),
    );
    first = part.first;
    head = put.other (place.Head n.level bucket) (λ e. cc) (λ e. cc) (λ e. differ (ap bucket_number e)) ∙ part.head;
    path = path_kept (links m1) (links m2) part.first part.nodes (links_stay bucket part) part.path;
  }

  pub one_more_anew : own < 2 ^ n.level → IsAnewFrom m m2 n at
  one_more_anew inside = record {
    chains = λ bucket below. elim (cases_eq bucket own) [
      | inl same ↦ subst (λ b. IsPartAnew m2 n b at) (sym same) (with_slot_first (was.chains own inside))
      | inr differ ↦ others_stay bucket differ (was.chains bucket below)
    ];
    metas = λ s other k since linked from. elim (cases_eq s at) [
      | inl same ↦
          let here : n.slot at ≡ Linked other k since = ap n.slot (sym same) ∙ linked in
          ap (λ x. m2 (place.Meta x)) same ∙ put.meta ∙ ap (λ t. meta_word (meta_of n.seed t)) (sym (same_text other k since here))
      | inr differ ↦
          put.other (place.Meta s) (λ e. differ (ap slot_number e)) (λ e. cc) (λ e. cc) ∙ was.metas s other k since linked (omega (arith, from, differ))
    ];
    stay = λ p not.
        put.other p (λ e. not (subst (IsAnew n) (sym e) (text, h, born, is))) (λ e. not (subst (IsAnew n) (sym e) (text, h, born, is))) (λ e. not (subst (IsAnew n) (sym e) (refl, inside)))
        ∙ was.stay p not;
    later = λ s less. put.other (place.Meta s) (λ e. let same : s ≡ at = ap slot_number e in absurd (omega (arith, less, same))) (λ e. cc) (λ e. cc) ∙ was.later s (omega (arith, less));
  }

-- all slots were put
pub all_anew : (m m' : Memory) (n : Now) → IsAnewFrom m m' n 0 → IsRehashed m m' n
all_anew m m' n anew = record {
  chains = λ bucket below. let part = anew.chains bucket below in record {
    nodes = part.nodes;
    ascending = part.ascending;
    slots = λ s. (λ on. ((part.slots s).0 on).0, λ of. (part.slots s).1 (of, omega arith));
    first = part.first;
    head = part.head;
    path = part.path;
  };
  metas = λ s text h born is. anew.metas s text h born is (omega arith);
  stay = anew.stay;
}
