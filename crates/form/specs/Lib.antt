-- The order form: what it states and the text that it makes (Form), what the writer says of it (Write) and promises (Promise).
pub mod Form
pub mod Write
pub mod Promise
