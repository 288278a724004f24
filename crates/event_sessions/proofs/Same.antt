-- The lent slices stay the same over calls one after the other. Assumes nothing.
use mathlib.Core.Path.{◌∙◌}
use Rattle.event_sessions.specs.declared.stores.Stores.{Stores}
use Rattle.event_sessions.specs.LentStores.{SameStores}

pub same_on : {a b c : Stores} → SameStores a b → SameStores b c → SameStores a c
same_on p q = record {
  textures = q.textures ∙ p.textures;
  retiring = q.retiring ∙ p.retiring;
  doomed = q.doomed ∙ p.doomed;
  spares = q.spares ∙ p.spares;
  newest = q.newest ∙ p.newest;
  stamps = q.stamps ∙ p.stamps;
  copies = q.copies ∙ p.copies;
  views = q.views ∙ p.views;
  textures_long = q.textures_long ∙ p.textures_long;
  retiring_long = q.retiring_long ∙ p.retiring_long;
  doomed_long = q.doomed_long ∙ p.doomed_long;
  spares_long = q.spares_long ∙ p.spares_long;
  newest_long = q.newest_long ∙ p.newest_long;
  stamps_long = q.stamps_long ∙ p.stamps_long;
  copies_long = q.copies_long ∙ p.copies_long;
  views_long = q.views_long ∙ p.views_long;
}
