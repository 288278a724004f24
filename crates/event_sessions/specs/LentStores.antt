-- Rule: The session on the stores that a program lends, and what no function does to them.
use Rattle.std.specs.Prelude.{◌≡◌, length}
use Rattle.event_sessions.specs.declared.session.Session.{Session}
use Rattle.event_sessions.specs.declared.stores.Stores.{Stores}
use Rattle.event_sessions.specs.Sessions.{SessionState, state_of}

-- a session, with what stands in the stores
abbrev pub state_in : Session → Stores → SessionState
state_in session s = state_of session s.textures.now s.retiring.now s.doomed.now s.spares.now s.newest.now s.stamps.now

-- the same slices: what is lent is written, and never put in another's place
pub record SameStores (before after : Stores) : Type 0 where
  pub textures : after.textures.ghost_name ≡ before.textures.ghost_name
  pub retiring : after.retiring.ghost_name ≡ before.retiring.ghost_name
  pub doomed : after.doomed.ghost_name ≡ before.doomed.ghost_name
  pub spares : after.spares.ghost_name ≡ before.spares.ghost_name
  pub newest : after.newest.ghost_name ≡ before.newest.ghost_name
  pub stamps : after.stamps.ghost_name ≡ before.stamps.ghost_name
  pub copies : after.copies.ghost_name ≡ before.copies.ghost_name
  pub views : after.views.ghost_name ≡ before.views.ghost_name
  pub textures_long : length after.textures.now ≡ length before.textures.now
  pub retiring_long : length after.retiring.now ≡ length before.retiring.now
  pub doomed_long : length after.doomed.now ≡ length before.doomed.now
  pub spares_long : length after.spares.now ≡ length before.spares.now
  pub newest_long : length after.newest.now ≡ length before.newest.now
  pub stamps_long : length after.stamps.now ≡ length before.stamps.now
  pub copies_long : length after.copies.now ≡ length before.copies.now
  pub views_long : length after.views.now ≡ length before.views.now
