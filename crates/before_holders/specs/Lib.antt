-- The texts (Texts) and the answers (Answers) before E7, which stay for one theorem alone; and that theorem: every call answers them as before (AsBefore).
pub mod Texts
pub mod Answers
pub mod AsBefore
