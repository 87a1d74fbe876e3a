use Rattle.cht_core.proofs.AnewState.{not_where_busy, may_where_none_dead}
use Rattle.cht_core.proofs.state.State.can_rehash.Goals as goal

pub returns-then-not-are_free : goal.returns-then-not-are_free
returns-then-not-are_free c = rw (← c.self.view_is) (record { exact = not_where_busy _ c.as_slice.result.now c.are_free.result c.as_slice.ensures.value c.are_free.ensures.exact c.if-not-are_free.true })

pub returns : goal.returns
returns c = rw (← c.self.view_is) (record {
  exact = may_where_none_dead _ c.self.invariant c.if-self-ge2.false c.as_slice.result.now c.as_slice-2.result.now c.as_slice-3.result.now c.are_free.result c.has_dead.result
      c.as_slice.ensures.value c.as_slice-2.ensures.value c.as_slice-3.ensures.value c.are_free.ensures.exact c.if-not-are_free.false c.has_dead.ensures.exact;
})
