-- Agreement of machines is an equivalence. Nothing here has to be believed.
use Rattle.std.proofs.Common.{◌∙◌, sym, refl}
use Rattle.sim_safe.specs.State.{Storage, Agrees}

pub agrees_same : (a : Storage) → Agrees a a
agrees_same a = record { pc = refl; icnt = refl; used = refl; ended = refl; text = refl; reserved = refl }

pub agrees_sym : (a b : Storage) → Agrees a b → Agrees b a
agrees_sym a b h = record {
  pc = sym h.pc;
  icnt = sym h.icnt;
  used = sym h.used;
  ended = sym h.ended;
  text = sym h.text;
  reserved = sym h.reserved;
}

pub agrees_trans : (a b c : Storage) → Agrees a b → Agrees b c → Agrees a c
agrees_trans a b c h k = record {
  pc = k.pc ∙ h.pc;
  icnt = k.icnt ∙ h.icnt;
  used = k.used ∙ h.used;
  ended = k.ended ∙ h.ended;
  text = k.text ∙ h.text;
  reserved = k.reserved ∙ h.reserved;
}
