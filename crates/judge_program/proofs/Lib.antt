-- The buffers of one byte more than a text may have change no answer (Cut).
pub mod Cut
