pub mod TopCall
