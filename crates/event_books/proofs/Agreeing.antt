-- What the claim says of a texel, and laws of the books' agreeing along lines. Assumes nothing.
use Prim.Native.Nat.{zero, suc}
use mathlib.Core.Path.{◌≡◌, refl}
use mathlib.Core.Option.{Option, none, some}
use mathlib.Core.List.{List, [], ◌∷◌}
use Rattle.pool_books.specs.Texels.{Texel}
use Rattle.pool_books.specs.VersionBook.{Book, live_of}
use Rattle.pool_books.specs.Demand3.{Agrees}
use Rattle.event_lines.specs.declared.event.Event.{Event}
use Rattle.event_books.specs.EventLists.{Room, Opened, next, after_events, Agree, AgreeThroughout, plain_of, Compared, AgreeAtTexels}

book_agrees : (b : Option Book) → Agrees b → (t : Texel) → Compared b t → live_of b t ≡ plain_of b t
unfolding Agrees
book_agrees none a t c = refl
book_agrees (some b) a t c = a t c.0 c.1

pub agree_at_texels : AgreeAtTexels
unfolding AgreeAtTexels
agree_at_texels none a id t c = refl
agree_at_texels (some o) a id t c = book_agrees (o.books.books id) (a id) t c

module _ (room : Room) where
  pub throughout_none : (o : Option Opened) → Agree o → AgreeThroughout room o []
  unfolding AgreeThroughout after_events
  throughout_none o a zero = a
  throughout_none o a (suc k) = a

  pub throughout_more : (o : Option Opened) (e : Event) (es : List Event) → Agree o → AgreeThroughout room (next room o e) es → AgreeThroughout room o (e ∷ es)
  unfolding AgreeThroughout after_events
  throughout_more o e es a t zero = a
  throughout_more o e es a t (suc k) = t k
